-- What `clap` is told of each command, and what it finds in words: its matches, as it defines them.
use Rattle.std.specs.Prelude.{Bool, true, false, List, [], ◌∷◌, codes, Option, Some, None}
use Rattle.clap.specs.Words.{App, Kinds, Row, Rule, Text, fault_of, matches_of, new_app, new_rule, with_rule}
use Rattle.clap.specs.Simple.{on_top}
use Rattle.clap.specs.declared.builder.action.ArgAction.TheVariants.{SetTrue}

-- an option with one value, `--name VALUE` or `--name=VALUE`, which may be given once
abbrev pub option : Text → Bool → Rule
option name is_needed = record (new_rule name) { long = Some name; required = is_needed }

-- an option without a value, `--name`, which may be given once
abbrev pub flag : Text → Rule
flag name = record (new_rule name) { long = Some name; action = Some SetTrue }

-- a command without options, and without the flags for help and version that `clap` would add
abbrev pub plain : Text → App
plain name = on_top (λ s. record s { disable_help_flag = true; disable_version_flag = true }) (new_app name)

-- `NAME --users FILE [--at SECONDS]`
abbrev pub pipe_app : Text → App
pipe_app name = with_rule (with_rule (plain name) (option (codes "users") true)) (option (codes "at") false)

-- the command, which may be told to end with its input
abbrev pub ending : App → App
ending app = with_rule app (flag (codes "until-input-ends"))

-- `NAME --users FILE --listen ADDRESS --workers N [--until-input-ends] [--journal FILE]`
abbrev pub serve_app : Text → App
serve_app name =
    with_rule
    (ending
    (with_rule
    (with_rule (with_rule (plain name) (option (codes "users") true)) (option (codes "listen") true))
    (option (codes "workers") true)))
    (option (codes "journal") false)

-- `NAME --seed N --sessions N --uploads N`
abbrev pub load_app : Text → App
load_app name =
    with_rule
    (with_rule (with_rule (plain name) (option (codes "seed") true)) (option (codes "sessions") true))
    (option (codes "uploads") true)

-- `osm_mirror --users FILE [--at SECONDS] [--listen ADDRESS] [--workers N] [--until-input-ends] [--journal FILE] [--until-level SECONDS]`
abbrev pub mirror_app : App
mirror_app =
    with_rule
    (with_rule
    (ending
    (with_rule
    (with_rule
    (with_rule (with_rule (plain (codes "osm_mirror")) (option (codes "users") true)) (option (codes "at") false))
    (option (codes "listen") false))
    (option (codes "workers") false)))
    (option (codes "journal") false))
    (option (codes "until-level") false)

-- the matches, where there is no fault
abbrev pub unless_faulty : Kinds → List Row → Option (List Row)
unless_faulty [] rows = Some rows
unless_faulty (fault ∷ faults) rows = None

-- the matches of a command on the words, of which the first is its name, where `clap` has no fault to find
abbrev pub found : App → List Text → Option (List Row)
found app words = unless_faulty (fault_of app words) (matches_of app words)
