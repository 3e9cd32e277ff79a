-- How the words of the command line are read.
use Rattle.std.specs.Prelude.{◌≡◌, ◌<◌, ◌≤◌, ⊤, ℕ, Bool, true, false, List, ◌∷◌, codes, Option, Some, None, Result, Ok, Err, if◌then◌else◌}
use Rattle.std.specs.Option.{option_map, option_and_then}
use Rattle.std.specs.List.{list_any}
use Rattle.std.specs.Str.{bytes_eq}
use Rattle.clap.specs.Words.{Row, Text, first_of}
use Rattle.osm_base.specs.declared.limits.TheConstants.{SESSION_LIMIT}
use Rattle.osm_words.specs.declared.words.TheConstants.{UPLOAD_LIMIT, LEVEL_LIMIT}
use Rattle.osm_words.specs.declared.words.LoadOptions.{LoadOptions}
use Rattle.osm_words.specs.declared.words.Words.{Words}
use Rattle.osm_words.specs.declared.words.Words.TheVariants.{Pipe, Serve, Measure, Export, Replay, Notes, ServeNotes}
use Rattle.osm_words.specs.declared.words.MirrorWords.{MirrorWords}
use Rattle.osm_words.specs.declared.words.MirrorWords.TheVariants.{Standard, Listen}
use Rattle.osm_words.specs.declared.words.WordsFault.{WordsFault}
use Rattle.osm_words.specs.declared.words.WordsFault.TheVariants.{NoReading, Memory}
use Rattle.osm_words.specs.Values.{is_set, text_of, number_in, fitting}
use Rattle.osm_base.specs.Number.{whole_of}
use Rattle.osm_words.specs.Commands.{pipe_app, serve_app, load_app, mirror_app, plain, found}

-- a command of the program, with its options
pub data Reading : Type 0 where
  -- the path of the users text, and the moment at which the clock is fixed
  pipe : Text → Option ℕ → Reading
  -- the path of the users text, the address where links come, the number of workers, and the path of the journal
  serve : Text → Text → ℕ → Option Text → Reading
  measure : LoadOptions → Reading
  export : LoadOptions → Reading
  replay : Reading
  -- as `pipe` and as `serve`, for the server of notes
  notes : Text → Option ℕ → Reading
  serve_notes : Text → Text → ℕ → Option Text → Reading

-- what was read, without where it lies in memory
abbrev pub shown : Words → Reading
shown (Pipe users at) = pipe users.now at
shown (Serve users listen workers journal) = serve users.now listen.now workers (option_map (λ path. path.now) journal)
shown (Measure load) = measure load
shown (Export load) = export load
shown Replay = replay
shown (Notes users at) = notes users.now at
shown (ServeNotes users listen workers journal) = serve_notes users.now listen.now workers (option_map (λ path. path.now) journal)

-- ---- the options in what `clap` found

-- the moment may be missing, and has to be a number where it isn't
abbrev pub pipe_at : Text → Option Text → Option Reading
pipe_at users None = Some (pipe users None)
pipe_at users (Some text) = option_map (λ at. pipe users (Some at)) (whole_of text)

abbrev pub pipe_of : List Row → Option Reading
pipe_of rows =
    option_and_then (λ users. pipe_at users (first_of (codes "at") rows))
    (option_and_then text_of (first_of (codes "users") rows))

-- the path of the journal may be missing, and has to be one where it isn't
abbrev pub serve_with : Text → Text → ℕ → Option Text → Option Reading
serve_with users listen workers None = Some (serve users listen workers None)
serve_with users listen workers (Some text) = option_map (λ path. serve users listen workers (Some path)) (text_of text)

abbrev pub serve_of : List Row → Option Reading
serve_of rows =
    option_and_then (λ users. option_and_then (λ listen. option_and_then (λ workers. serve_with users listen workers (first_of (codes "journal") rows))
    (option_and_then (number_in 1 SESSION_LIMIT) (first_of (codes "workers") rows)))
    (option_and_then text_of (first_of (codes "listen") rows)))
    (option_and_then text_of (first_of (codes "users") rows))

abbrev pub load_of : List Row → Option LoadOptions
load_of rows =
    option_and_then (λ seed. option_and_then (λ sessions. option_and_then (λ uploads. fitting seed sessions uploads)
    (option_and_then (number_in 0 UPLOAD_LIMIT) (first_of (codes "uploads") rows)))
    (option_and_then (number_in 1 SESSION_LIMIT) (first_of (codes "sessions") rows)))
    (option_and_then whole_of (first_of (codes "seed") rows))

-- ---- the words

-- of a command's name with its options
abbrev pub pipe_reading : Text → List Text → Option Reading
pipe_reading name words = option_and_then pipe_of (found (pipe_app name) words)

abbrev pub serve_reading : Text → List Text → Option Reading
serve_reading name words = option_and_then serve_of (found (serve_app name) words)

-- what serves the map, for notes
abbrev pub of_notes : Reading → Reading
of_notes (pipe users at) = notes users at
of_notes (serve users listen workers journal) = serve_notes users listen workers journal
of_notes other = other

abbrev pub load_reading : Text → List Text → Option LoadOptions
load_reading name words = option_and_then load_of (found (load_app name) words)

abbrev pub replay_reading : List Text → Option Reading
replay_reading words = option_map (λ _. replay) (found (plain (codes "replay")) words)

-- of the command of that name
abbrev pub command_reading : Text → List Text → Option Reading
command_reading name words =
    if bytes_eq name (codes "pipe") then pipe_reading (codes "pipe") words
    else (if bytes_eq name (codes "serve") then serve_reading (codes "serve") words
    else (if bytes_eq name (codes "measure") then option_map measure (load_reading (codes "measure") words)
    else (if bytes_eq name (codes "export") then option_map export (load_reading (codes "export") words)
    else (if bytes_eq name (codes "replay") then replay_reading words
    else (if bytes_eq name (codes "notes") then option_map of_notes (pipe_reading (codes "notes") words)
    else (if bytes_eq name (codes "serve-notes") then option_map of_notes (serve_reading (codes "serve-notes") words)
    else None))))))

-- behind the program's name
abbrev pub named_reading : List Text → Option Reading
named_reading (program ∷ name ∷ options) = command_reading name (name ∷ options)
named_reading _ = None

-- `--` stands among the words
abbrev pub has_end_mark : List Text → Bool
has_end_mark words = list_any (λ word. bytes_eq word (codes "--")) words

-- `--until-input-ends` stands among the words. Where they have a reading it is the flag: no value begins with a hyphen. It changes
-- no reading, but what the program serves: ports that end with the standard input.
abbrev pub until_input_ends : List Text → Bool
until_input_ends words = list_any (λ word. bytes_eq word (codes "--until-input-ends")) words

-- the reading of the words, the program's name first
abbrev pub reading_of : List Text → Option Reading
reading_of words = if has_end_mark words then None else named_reading words

-- ---- the words of a mirror

-- what a mirror is to do, with its options
pub data MirrorReading : Type 0 where
  -- the path of the users text, the moment at which the clock is fixed, and for how many seconds it counts as level
  standard : Text → Option ℕ → Option ℕ → MirrorReading
  -- the path of the users text, the address where links come, the number of workers, the path of the journal, and for how many seconds it
  -- counts as level
  listens : Text → Text → ℕ → Option Text → Option ℕ → MirrorReading

-- what was read, without where it lies in memory
abbrev pub shown_mirror : MirrorWords → MirrorReading
shown_mirror (Standard users at until_level) = standard users.now at until_level
shown_mirror (Listen users listen workers journal until_level) =
    listens users.now listen.now workers (option_map (λ path. path.now) journal) until_level

-- the path of the journal may be missing, and has to be one where it isn't
abbrev pub listens_with : Option ℕ → Text → Text → ℕ → Option Text → Option MirrorReading
listens_with until_level users listen workers None = Some (listens users listen workers None until_level)
listens_with until_level users listen workers (Some text) = option_map (λ path. listens users listen workers (Some path) until_level) (text_of text)

-- The moment, the address, the workers and the journal: without the last three it is the standard link, with an address and workers and
-- without a moment it listens.
abbrev pub mirror_by : Option ℕ → Text → Option Text → Option Text → Option Text → Option Text → Option MirrorReading
mirror_by until_level users None None None None = Some (standard users None until_level)
mirror_by until_level users (Some text) None None None = option_map (λ at. standard users (Some at) until_level) (whole_of text)
mirror_by until_level users None (Some address) (Some count) journal =
    option_and_then (λ listen. option_and_then (λ workers. listens_with until_level users listen workers journal) (number_in 1 SESSION_LIMIT count)) (text_of address)
mirror_by until_level users _ _ _ _ = None

-- What doesn't listen isn't told to end with its input: it does so anyhow.
abbrev pub mirror_until : Bool → Option ℕ → Text → Option Text → Option Text → Option Text → Option Text → Option MirrorReading
mirror_until true until_level users at None workers journal = None
mirror_until true until_level users at (Some address) workers journal = mirror_by until_level users at (Some address) workers journal
mirror_until false until_level users at listen workers journal = mirror_by until_level users at listen workers journal

-- For how many seconds a mirror counts as level may be missing, and is at most a day where it isn't.
abbrev pub level_by : Option Text → Option (Option ℕ)
level_by None = Some None
level_by (Some text) = option_map (λ seconds. Some seconds) (number_in 1 LEVEL_LIMIT text)

abbrev pub mirror_with : List Row → Option ℕ → Text → Option MirrorReading
mirror_with rows until_level users =
    mirror_until (is_set (first_of (codes "until-input-ends") rows)) until_level users (first_of (codes "at") rows) (first_of (codes "listen") rows)
    (first_of (codes "workers") rows) (first_of (codes "journal") rows)

abbrev pub mirror_of : List Row → Option MirrorReading
mirror_of rows =
    option_and_then (λ users. option_and_then (λ until_level. mirror_with rows until_level users) (level_by (first_of (codes "until-level") rows)))
    (option_and_then text_of (first_of (codes "users") rows))

-- the reading of a mirror's words, the program's name first, whatever it is
abbrev pub mirror_reading_of : List Text → Option MirrorReading
mirror_reading_of words = if has_end_mark words then None else option_and_then mirror_of (found mirror_app words)

-- ---- what reading answers

-- the reading, and no reading only where there is none; want of memory is told apart, and may come at any time
abbrev pub Gives : Option Reading → Result Words WordsFault → Type 0
Gives expected (Ok words) = expected ≡ Some (shown words)
Gives expected (Err NoReading) = expected ≡ None
Gives expected (Err Memory) = ⊤

abbrev pub GivesLoad : Option LoadOptions → Result LoadOptions WordsFault → Type 0
GivesLoad expected (Ok load) = expected ≡ Some load
GivesLoad expected (Err NoReading) = expected ≡ None
GivesLoad expected (Err Memory) = ⊤

abbrev pub GivesMirror : Option MirrorReading → Result MirrorWords WordsFault → Type 0
GivesMirror expected (Ok words) = expected ≡ Some (shown_mirror words)
GivesMirror expected (Err NoReading) = expected ≡ None
GivesMirror expected (Err Memory) = ⊤

-- A load has a session at least, and no more than there may be.
pub record HasSessions (load : LoadOptions) : Type 0 where
  pub some : 0 < load.sessions
  pub few : load.sessions ≤ SESSION_LIMIT

-- Each worker has a session of its own, so there is one at least, and there are no more than there may be.
pub record HasWorkers (workers : ℕ) : Type 0 where
  pub some : 0 < workers
  pub few : workers ≤ SESSION_LIMIT

-- the same of the load or the workers that are asked for, where they are
abbrev pub HaveSessions : Words → Type 0
HaveSessions (Serve users listen workers journal) = HasWorkers workers
HaveSessions (ServeNotes users listen workers journal) = HasWorkers workers
HaveSessions (Measure load) = HasSessions load
HaveSessions (Export load) = HasSessions load
HaveSessions other = ⊤

-- the same of a mirror's workers, where there are any
abbrev pub HaveWorkers : MirrorWords → Type 0
HaveWorkers (Standard users at until_level) = ⊤
HaveWorkers (Listen users listen workers journal until_level) = HasWorkers workers
