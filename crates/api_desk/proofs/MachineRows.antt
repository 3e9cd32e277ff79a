-- A row of the map's machine is a row of the map.
use Rattle.std.proofs.Common.{◌≡◌, ℕ, ◌+◌, ◌≤◌, inl, inr, ⊎_elim, List, refl, sym, ap, ◌∙◌, Option, Some, None, Result, Ok, Err}
use Rattle.std.specs.Prelude.{slice_get}
use Rattle.osm_base.specs.declared.people.User.{User}
use Rattle.osm_change.specs.declared.answers.Answer.TheVariants as answers
use Rattle.osm_change.specs.declared.refusals.Refusal.{Refusal}
use Rattle.osm_model.specs.Act.{Effect, judge, settle}
use Rattle.osm_model.specs.Ask.{ask}
use Rattle.osm_model.specs.Answered.{Request, refused, does, reads, map_at, stamp_on}
use Rattle.osm_model.specs.Journal.{entry_of}
use Rattle.osm_model.specs.declared.commands.Command.{Command}
use Rattle.osm_model.specs.declared.commands.Entry.{Entry}
use Rattle.osm_model.specs.declared.queries.Query.{Query}
use Rattle.session_desk.specs.Rows.{RefusesRequest, LacksMemory, IsOwed, RefusesCommand, AcceptsCommand, AnswersQuery}
use Rattle.session_desk.specs.Rows.{IsRow as IsRowBy, Place as Step}
use Rattle.map_machine.specs.Machine.{map_rules, bytes_of, entry_if}
use Rattle.api_desk.specs.MachineRows.{asked_of, place_of, HasRow}

lacks : (F : List Entry) (s : ℕ) (before after : Step) (request : Request) (m : ℕ) (bytes : Option (List ℕ))
    → LacksMemory before bytes after → HasRow F s (place_of before) request m bytes (place_of after)
lacks F s before after (refused r) m bytes row = record { answer = None; row = inr (record { told = refl; stays = ap place_of row.stays }); told = row.told }
lacks F s before after (does user c) m bytes row = record { answer = None; row = inr (inr (inl (record { told = refl; stays = ap place_of row.stays }))); told = row.told }
lacks F s before after (reads q) m bytes row = record { answer = None; row = inr (record { told = refl; stays = ap place_of row.stays }); told = row.told }

refuses_request : (F : List Entry) (s : ℕ) (before after : Step) (r : Refusal) (m : ℕ) (bytes : Option (List ℕ))
    → RefusesRequest before (bytes_of (answers.Refused r)) bytes after → HasRow F s (place_of before) (refused r) m bytes (place_of after)
refuses_request F s before after r m bytes row = record {
  answer = Some (answers.Refused r);
  row = inl (record { told = refl; stays = ap place_of row.stays });
  told = row.told;
}

answers_query : (F : List Entry) (s : ℕ) (before after : Step) (q : Query) (m : ℕ) (bytes : Option (List ℕ))
    → AnswersQuery map_rules F before q m bytes after → HasRow F s (place_of before) (reads q) m bytes (place_of after)
answers_query F s before after q m bytes row = record {
  answer = Some (ask (map_at F after.point) m q);
  row = inl (record { later = row.later; told = refl; calls = row.calls; debts = row.debts });
  told = row.told;
}

owes : (F : List Entry) (s : ℕ) (before after : Step) (user : User) (c : Command) (m : ℕ) (bytes : Option (List ℕ))
    → IsOwed before bytes after → HasRow F s (place_of before) (does user c) m bytes (place_of after)
owes F s before after user c m bytes row = record {
  answer = None;
  row = inr (inr (inr (record { told = refl; point = row.point; calls = row.calls; debts = row.debts })));
  told = row.told;
}

-- ---- a command

-- it was refused: there is no entry
refused_by : (F : List Entry) (s : ℕ) (before after : Step) (user : User) (c : Command) (m : ℕ) (bytes : Option (List ℕ)) (j : Result Effect Refusal)
    → judge (map_at F after.point) user (stamp_on (map_at F after.point) m) c ≡ j
    → (e : Entry) → entry_if j e ≡ None
    → before.point ≤ after.point → after.calls ≡ before.calls → after.debts ≡ before.debts
    → bytes ≡ Some (bytes_of (settle (map_at F after.point) (stamp_on (map_at F after.point) m) j).1)
    → HasRow F s (place_of before) (does user c) m bytes (place_of after)
refused_by F s before after user c m bytes (Ok done) judged e none later calls debts told = absurd cc
refused_by F s before after user c m bytes (Err r) judged e none later calls debts told = record {
  answer = Some (answers.Refused r);
  row = inl (record { refusal = r; later = later; judged = judged; told = refl; calls = calls; debts = debts });
  told = told;
}

refuses_command : (F : List Entry) (s : ℕ) (before after : Step) (user : User) (c : Command) (m : ℕ) (bytes : Option (List ℕ))
    → RefusesCommand map_rules F s before (record { user = user; command = c }) m bytes after → HasRow F s (place_of before) (does user c) m bytes (place_of after)
refuses_command F s before after user c m bytes row =
    refused_by F s before after user c m bytes (judge (map_at F after.point) user (stamp_on (map_at F after.point) m) c) refl
    (entry_of (map_at F after.point) s (before.calls + 1) user m c) row.refused row.later row.calls row.debts row.told

some_entry : (e f : Entry) → ◌≡◌ {A = Option Entry} (Some e) (Some f) → e ≡ f
some_entry e f same = cc

-- it was accepted: its entry stands there
accepted_by : (F : List Entry) (s : ℕ) (before after : Step) (user : User) (c : Command) (m : ℕ) (bytes : Option (List ℕ)) (at : ℕ) (e : Entry) (j : Result Effect Refusal)
    → judge (map_at F at) user (stamp_on (map_at F at) m) c ≡ j
    → entry_if j (entry_of (map_at F at) s (before.calls + 1) user m c) ≡ Some e
    → before.point ≤ at → slice_get F at ≡ Some e → after ≡ record { point = at + 1; calls = before.calls + 1; debts = before.debts }
    → bytes ≡ Some (bytes_of (settle (map_at F at) (stamp_on (map_at F at) m) j).1)
    → HasRow F s (place_of before) (does user c) m bytes (place_of after)
accepted_by F s before after user c m bytes at e (Err r) judged some later stands comes told = absurd cc
accepted_by F s before after user c m bytes at e (Ok done) judged some later stands comes told = record {
  answer = Some done.answer;
  row = inr (inl (record {
    at = at;
    done = done;
    later = later;
    judged = judged;
    told = refl;
    entry = stands ∙ sym some;
    comes_to = ap place_of comes;
  }));
  told = told;
}

accepts_command : (F : List Entry) (s : ℕ) (before after : Step) (user : User) (c : Command) (m : ℕ) (bytes : Option (List ℕ))
    → AcceptsCommand map_rules F s before (record { user = user; command = c }) m bytes after → HasRow F s (place_of before) (does user c) m bytes (place_of after)
accepts_command F s before after user c m bytes row =
    accepted_by F s before after user c m bytes row.at row.entry (judge (map_at F row.at) user (stamp_on (map_at F row.at) m) c) refl
    row.accepted row.later row.stands row.comes_to row.told

pub row_of : (F : List Entry) (s : ℕ) (before after : Step) (request : Request) (m : ℕ) (bytes : Option (List ℕ))
    → IsRowBy map_rules F s before (asked_of request) m bytes after → HasRow F s (place_of before) request m bytes (place_of after)
row_of F s before after (refused r) m bytes row = ⊎_elim (λ refuses. refuses_request F s before after r m bytes refuses) (λ none. lacks F s before after (refused r) m bytes none) row
row_of F s before after (does user c) m bytes row =
    ⊎_elim
    (λ refuses. refuses_command F s before after user c m bytes refuses)
    (λ other. ⊎_elim
    (λ accepts. accepts_command F s before after user c m bytes accepts)
    (λ rest. ⊎_elim (λ none. lacks F s before after (does user c) m bytes none) (λ owed. owes F s before after user c m bytes owed) rest)
    other)
    row
row_of F s before after (reads q) m bytes row = ⊎_elim (λ answered. answers_query F s before after q m bytes answered) (λ none. lacks F s before after (reads q) m bytes none) row
