-- The map as a machine: its states are maps, and its rules those of the map.
use Rattle.std.specs.Prelude.{◌≡◌, ⊤, ℕ, ◌/◌, ◌%◌, List, ◌∷◌, Option, Some, None, Result, Ok, Err}
use Rattle.osm_base.specs.Stamp.{stamp_after}
use Rattle.osm_change.specs.declared.answers.Answer.{Answer}
use Rattle.osm_change.specs.declared.refusals.Refusal.{Refusal}
use Rattle.osm_json.specs.Answered.{status_of, body_of}
use Rattle.osm_model.specs.Act.{Effect, judge, act}
use Rattle.osm_model.specs.Ask.{ask}
use Rattle.osm_model.specs.Journal.{Later, after, takes, entry_of}
use Rattle.osm_model.specs.State.{empty}
use Rattle.osm_model.specs.declared.commands.Entry.{Entry}
use Rattle.osm_model.specs.declared.queries.Query.{Query}
use Rattle.osm_model.specs.declared.states.State.{State}
use Rattle.osm_world.specs.World.{IsKept}
use Rattle.machine_law.specs.declared.tags.Settled.{Settled}
use Rattle.machine_law.specs.declared.tags.Tag.{Tag}
use Rattle.machine_law.specs.Rules.{Rules}
use Rattle.osm_world.specs.World.{Parts}
use Rattle.osm_later.specs.declared.looks.Look.{Look}
use Rattle.osm_later.specs.Plan.{StandsOn}
use Rattle.osm_later.specs.Still.{Differs}
use Rattle.upload_check.specs.Commands.{IsUploadPlan, IsOther}
use Rattle.upload_check.specs.Planned.{plan_of}
use Rattle.map_machine.specs.declared.plans.MapPlan.{MapPlan}
use Rattle.map_machine.specs.declared.plans.MapPlan.TheVariants.{Upload, Other}
use Rattle.map_machine.specs.declared.machine.MapWorld.{MapWorld}
use Rattle.map_machine.specs.declared.plans.Asked.{Asked}

-- the map with its indexes
abbrev pub world_of : MapWorld → Parts
world_of w = w.world

-- an answer as bytes: the two of its status, high byte first, and then its body
abbrev pub bytes_of : Answer → List ℕ
bytes_of a = (status_of a / 256) ∷ (status_of a % 256) ∷ body_of a

-- the entry of a command that is accepted
abbrev pub entry_if : Result Effect Refusal → Entry → Option Entry
entry_if (Ok done) e = Some e
entry_if (Err r) e = None

-- what a user's command comes to, as that call, at a moment
abbrev pub act_as : State → Tag → ℕ → Asked → Settled Entry
act_as P tag moment asked = record {
  answer = bytes_of (act P asked.user moment asked.command).1;
  entry = entry_if
      (judge P asked.user (stamp_after P.last moment) asked.command)
      (entry_of P tag.session tag.call asked.user moment asked.command);
}

abbrev pub tag_of : Entry → Tag
tag_of e = record { session = e.session; call = e.call }

-- it is a plan of that command, made on that map
abbrev pub IsPlannedAs : State → Asked → MapPlan → Type 0
IsPlannedAs P asked (Upload p) = IsUploadPlan P asked.user asked.command p
IsPlannedAs P asked (Other other) = (other ≡ asked) × IsOther asked.command

-- the plan was made on some map, and this one is later
pub record IsForeseenAs (plan : MapPlan) (now : State) : Type 0 where
  pub begun : State
  pub asked : Asked
  pub planned : IsPlannedAs begun asked plan
  pub later : Later begun now

-- all that it looked at is so on the map
abbrev pub StandsAs : MapPlan → State → Type 0
StandsAs (Upload p) P = StandsOn (plan_of p) P.elements
StandsAs (Other other) P = ⊤

-- it and the map differ there
abbrev pub DiffersAs : Look → MapPlan → State → Type 0
DiffersAs look (Upload p) P = Differs look (plan_of p) P.elements
DiffersAs look (Other other) P = ⊥

abbrev pub map_rules : Rules State Asked Query MapPlan Entry Look
map_rules = record {
  start = empty;
  act = act_as;
  after = after;
  takes = takes;
  reply = λ P q moment. bytes_of (ask P moment q);
  tag_of = tag_of;
  planned = IsPlannedAs;
  stands = StandsAs;
  differs = DiffersAs;
  consistent = IsKept;
}
