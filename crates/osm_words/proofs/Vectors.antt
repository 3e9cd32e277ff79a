-- Worked words: both forms of an option, each refusal.
use Rattle.std.proofs.Common.{◌≡◌, ℕ, [], ◌∷◌, Some, None, codes, refl}
use Rattle.clap.proofs.OnLiterals.{clap_on_literals}
use Rattle.osm_words.specs.declared.words.LoadOptions.{LoadOptions}
use Rattle.osm_words.specs.Words.{reading_of, pipe, serve, measure, export, replay, notes, serve_notes, mirror_reading_of, standard, listens}

abbrev load : ℕ → ℕ → ℕ → LoadOptions
load seed sessions uploads = record { seed = seed; sessions = sessions; uploads = uploads }

apart : reading_of (codes "osm" ∷ codes "pipe" ∷ codes "--users" ∷ codes "u.txt" ∷ codes "--at" ∷ codes "7" ∷ []) ≡ Some (pipe (codes "u.txt") (Some 7))
unfolding clap_on_literals
apart = refl

joined : reading_of (codes "osm" ∷ codes "pipe" ∷ codes "--at=07" ∷ codes "--users=u=1" ∷ []) ≡ Some (pipe (codes "u=1") (Some 7))
unfolding clap_on_literals
joined = refl

by_the_clock : reading_of (codes "osm" ∷ codes "pipe" ∷ codes "--users=u" ∷ []) ≡ Some (pipe (codes "u") None)
unfolding clap_on_literals
by_the_clock = refl

twice : reading_of (codes "osm" ∷ codes "pipe" ∷ codes "--users=u" ∷ codes "--users=u" ∷ []) ≡ None
unfolding clap_on_literals
twice = refl

no_users : reading_of (codes "osm" ∷ codes "pipe" ∷ codes "--at=7" ∷ []) ≡ None
unfolding clap_on_literals
no_users = refl

no_value : reading_of (codes "osm" ∷ codes "pipe" ∷ codes "--users" ∷ []) ≡ None
unfolding clap_on_literals
no_value = refl

empty_value : reading_of (codes "osm" ∷ codes "pipe" ∷ codes "--users=" ∷ []) ≡ None
unfolding clap_on_literals
empty_value = refl

signed_value : reading_of (codes "osm" ∷ codes "pipe" ∷ codes "--users=-u" ∷ []) ≡ None
unfolding clap_on_literals
signed_value = refl

a_word_beside : reading_of (codes "osm" ∷ codes "pipe" ∷ codes "--users=u" ∷ codes "v" ∷ []) ≡ None
unfolding clap_on_literals
a_word_beside = refl

no_help : reading_of (codes "osm" ∷ codes "pipe" ∷ codes "--users=u" ∷ codes "--help" ∷ []) ≡ None
unfolding clap_on_literals
no_help = refl

no_short_help : reading_of (codes "osm" ∷ codes "replay" ∷ codes "-h" ∷ []) ≡ None
unfolding clap_on_literals
no_short_help = refl

no_version : reading_of (codes "osm" ∷ codes "replay" ∷ codes "--version" ∷ []) ≡ None
unfolding clap_on_literals
no_version = refl

end_mark : reading_of (codes "osm" ∷ codes "pipe" ∷ codes "--users=u" ∷ codes "--" ∷ []) ≡ None
unfolding clap_on_literals
end_mark = refl

served : reading_of (codes "osm" ∷ codes "serve" ∷ codes "--users" ∷ codes "u.txt" ∷ codes "--listen" ∷ codes "127.0.0.1:8080" ∷ codes "--workers" ∷ codes "8" ∷ [])
    ≡ Some (serve (codes "u.txt") (codes "127.0.0.1:8080") 8 None)
unfolding clap_on_literals
served = refl

served_by_the_most : reading_of (codes "osm" ∷ codes "serve" ∷ codes "--workers=064" ∷ codes "--listen=[::1]:0" ∷ codes "--users=u" ∷ [])
    ≡ Some (serve (codes "u") (codes "[::1]:0") 64 None)
unfolding clap_on_literals
served_by_the_most = refl

served_with_a_journal : reading_of (codes "osm" ∷ codes "serve" ∷ codes "--users=u" ∷ codes "--journal" ∷ codes "j.txt" ∷ codes "--listen=l" ∷ codes "--workers=1" ∷ [])
    ≡ Some (serve (codes "u") (codes "l") 1 (Some (codes "j.txt")))
unfolding clap_on_literals
served_with_a_journal = refl

empty_journal : reading_of (codes "osm" ∷ codes "serve" ∷ codes "--users=u" ∷ codes "--listen=l" ∷ codes "--workers=1" ∷ codes "--journal=" ∷ []) ≡ None
unfolding clap_on_literals
empty_journal = refl

two_journals : reading_of (codes "osm" ∷ codes "serve" ∷ codes "--users=u" ∷ codes "--listen=l" ∷ codes "--workers=1" ∷ codes "--journal=a" ∷ codes "--journal=b" ∷ []) ≡ None
unfolding clap_on_literals
two_journals = refl

no_workers : reading_of (codes "osm" ∷ codes "serve" ∷ codes "--users=u" ∷ codes "--listen=l" ∷ codes "--workers=0" ∷ []) ≡ None
unfolding clap_on_literals
no_workers = refl

too_many_workers : reading_of (codes "osm" ∷ codes "serve" ∷ codes "--users=u" ∷ codes "--listen=l" ∷ codes "--workers=65" ∷ []) ≡ None
unfolding clap_on_literals
too_many_workers = refl

workers_untold : reading_of (codes "osm" ∷ codes "serve" ∷ codes "--users=u" ∷ codes "--listen=l" ∷ []) ≡ None
unfolding clap_on_literals
workers_untold = refl

served_until_the_input_ends : reading_of (codes "osm" ∷ codes "serve" ∷ codes "--users=u" ∷ codes "--until-input-ends" ∷ codes "--listen=l" ∷ codes "--workers=1" ∷ [])
    ≡ Some (serve (codes "u") (codes "l") 1 None)
unfolding clap_on_literals
served_until_the_input_ends = refl

until_with_a_value : reading_of (codes "osm" ∷ codes "serve" ∷ codes "--users=u" ∷ codes "--listen=l" ∷ codes "--workers=1" ∷ codes "--until-input-ends=true" ∷ []) ≡ None
unfolding clap_on_literals
until_with_a_value = refl

until_twice : reading_of (codes "osm" ∷ codes "serve" ∷ codes "--users=u" ∷ codes "--listen=l" ∷ codes "--workers=1" ∷ codes "--until-input-ends" ∷ codes "--until-input-ends" ∷ [])
    ≡ None
unfolding clap_on_literals
until_twice = refl

no_path_of_that_name : reading_of (codes "osm" ∷ codes "serve" ∷ codes "--users" ∷ codes "--until-input-ends" ∷ codes "--listen=l" ∷ codes "--workers=1" ∷ []) ≡ None
unfolding clap_on_literals
no_path_of_that_name = refl

not_of_pipe : reading_of (codes "osm" ∷ codes "pipe" ∷ codes "--users=u" ∷ codes "--until-input-ends" ∷ []) ≡ None
unfolding clap_on_literals
not_of_pipe = refl

signed_address : reading_of (codes "osm" ∷ codes "serve" ∷ codes "--users=u" ∷ codes "--listen=-l" ∷ codes "--workers=1" ∷ []) ≡ None
unfolding clap_on_literals
signed_address = refl

not_of_serve : reading_of (codes "osm" ∷ codes "serve" ∷ codes "--users=u" ∷ codes "--listen=l" ∷ codes "--workers=1" ∷ codes "--at=1" ∷ []) ≡ None
unfolding clap_on_literals
not_of_serve = refl

a_load : reading_of (codes "osm" ∷ codes "measure" ∷ codes "--seed=1" ∷ codes "--sessions" ∷ codes "3" ∷ codes "--uploads=1000" ∷ [])
    ≡ Some (measure (load 1 3 1000))
unfolding clap_on_literals
a_load = refl

the_fullest : reading_of (codes "osm" ∷ codes "export" ∷ codes "--uploads=909" ∷ codes "--seed=18446744073709551615" ∷ codes "--sessions=1" ∷ [])
    ≡ Some (export (load 18446744073709551615 1 909))
unfolding clap_on_literals
the_fullest = refl

too_full : reading_of (codes "osm" ∷ codes "export" ∷ codes "--uploads=910" ∷ codes "--seed=1" ∷ codes "--sessions=1" ∷ []) ≡ None
unfolding clap_on_literals
too_full = refl

no_sessions : reading_of (codes "osm" ∷ codes "measure" ∷ codes "--seed=1" ∷ codes "--sessions=0" ∷ codes "--uploads=0" ∷ []) ≡ None
unfolding clap_on_literals
no_sessions = refl

too_many_sessions : reading_of (codes "osm" ∷ codes "measure" ∷ codes "--seed=1" ∷ codes "--sessions=65" ∷ codes "--uploads=0" ∷ []) ≡ None
unfolding clap_on_literals
too_many_sessions = refl

replayed : reading_of (codes "osm" ∷ codes "replay" ∷ []) ≡ Some replay
unfolding clap_on_literals
replayed = refl

unnamed : reading_of (codes "osm" ∷ []) ≡ None
unnamed = refl

unknown : reading_of (codes "osm" ∷ codes "help" ∷ []) ≡ None
unknown = refl

-- ---- of a mirror

mirrored : mirror_reading_of (codes "osm_mirror" ∷ codes "--users" ∷ codes "u.txt" ∷ codes "--at" ∷ codes "7" ∷ []) ≡ Some (standard (codes "u.txt") (Some 7) None)
unfolding clap_on_literals
mirrored = refl

mirrored_by_the_clock : mirror_reading_of (codes "m" ∷ codes "--users=u" ∷ []) ≡ Some (standard (codes "u") None None)
unfolding clap_on_literals
mirrored_by_the_clock = refl

mirrored_at_ports : mirror_reading_of (codes "osm_mirror" ∷ codes "--workers" ∷ codes "8" ∷ codes "--users=u" ∷ codes "--listen=[::1]:0" ∷ [])
    ≡ Some (listens (codes "u") (codes "[::1]:0") 8 None None)
unfolding clap_on_literals
mirrored_at_ports = refl

mirror_without_users : mirror_reading_of (codes "osm_mirror" ∷ codes "--at=7" ∷ []) ≡ None
unfolding clap_on_literals
mirror_without_users = refl

mirror_at_ports_and_a_moment : mirror_reading_of (codes "osm_mirror" ∷ codes "--users=u" ∷ codes "--listen=l" ∷ codes "--workers=1" ∷ codes "--at=1" ∷ []) ≡ None
unfolding clap_on_literals
mirror_at_ports_and_a_moment = refl

mirror_workers_untold : mirror_reading_of (codes "osm_mirror" ∷ codes "--users=u" ∷ codes "--listen=l" ∷ []) ≡ None
unfolding clap_on_literals
mirror_workers_untold = refl

mirror_address_untold : mirror_reading_of (codes "osm_mirror" ∷ codes "--users=u" ∷ codes "--workers=1" ∷ []) ≡ None
unfolding clap_on_literals
mirror_address_untold = refl

mirror_of_too_many_workers : mirror_reading_of (codes "osm_mirror" ∷ codes "--users=u" ∷ codes "--listen=l" ∷ codes "--workers=65" ∷ []) ≡ None
unfolding clap_on_literals
mirror_of_too_many_workers = refl

mirrored_until_the_input_ends : mirror_reading_of (codes "osm_mirror" ∷ codes "--until-input-ends" ∷ codes "--users=u" ∷ codes "--listen=l" ∷ codes "--workers=1" ∷ [])
    ≡ Some (listens (codes "u") (codes "l") 1 None None)
unfolding clap_on_literals
mirrored_until_the_input_ends = refl

mirror_that_ends_anyhow : mirror_reading_of (codes "osm_mirror" ∷ codes "--users=u" ∷ codes "--until-input-ends" ∷ []) ≡ None
unfolding clap_on_literals
mirror_that_ends_anyhow = refl

mirrored_into_a_journal : mirror_reading_of (codes "osm_mirror" ∷ codes "--users=u" ∷ codes "--listen=l" ∷ codes "--workers=1" ∷ codes "--journal" ∷ codes "j" ∷ [])
    ≡ Some (listens (codes "u") (codes "l") 1 (Some (codes "j")) None)
unfolding clap_on_literals
mirrored_into_a_journal = refl

mirrored_into_no_path : mirror_reading_of (codes "osm_mirror" ∷ codes "--users=u" ∷ codes "--listen=l" ∷ codes "--workers=1" ∷ codes "--journal=" ∷ []) ≡ None
unfolding clap_on_literals
mirrored_into_no_path = refl

journal_of_the_standard_link : mirror_reading_of (codes "osm_mirror" ∷ codes "--users=u" ∷ codes "--journal=j" ∷ []) ≡ None
unfolding clap_on_literals
journal_of_the_standard_link = refl

mirrored_while_level : mirror_reading_of (codes "osm_mirror" ∷ codes "--users=u" ∷ codes "--listen=l" ∷ codes "--workers=1" ∷ codes "--until-level" ∷ codes "5" ∷ codes "--journal=j" ∷ [])
    ≡ Some (listens (codes "u") (codes "l") 1 (Some (codes "j")) (Some 5))
unfolding clap_on_literals
mirrored_while_level = refl

mirrored_while_level_for_a_day : mirror_reading_of (codes "osm_mirror" ∷ codes "--users=u" ∷ codes "--until-level=086400" ∷ codes "--at=7" ∷ [])
    ≡ Some (standard (codes "u") (Some 7) (Some 86400))
unfolding clap_on_literals
mirrored_while_level_for_a_day = refl

level_for_more_than_a_day : mirror_reading_of (codes "osm_mirror" ∷ codes "--users=u" ∷ codes "--until-level=86401" ∷ []) ≡ None
unfolding clap_on_literals
level_for_more_than_a_day = refl

level_for_no_time : mirror_reading_of (codes "osm_mirror" ∷ codes "--users=u" ∷ codes "--listen=l" ∷ codes "--workers=1" ∷ codes "--until-level=0" ∷ []) ≡ None
unfolding clap_on_literals
level_for_no_time = refl

level_for_a_word : mirror_reading_of (codes "osm_mirror" ∷ codes "--users=u" ∷ codes "--until-level=5s" ∷ []) ≡ None
unfolding clap_on_literals
level_for_a_word = refl

level_twice : mirror_reading_of (codes "osm_mirror" ∷ codes "--users=u" ∷ codes "--until-level=5" ∷ codes "--until-level=5" ∷ []) ≡ None
unfolding clap_on_literals
level_twice = refl

mirror_with_a_command : mirror_reading_of (codes "osm_mirror" ∷ codes "pipe" ∷ codes "--users=u" ∷ []) ≡ None
unfolding clap_on_literals
mirror_with_a_command = refl

mirror_with_an_end_mark : mirror_reading_of (codes "osm_mirror" ∷ codes "--users=u" ∷ codes "--" ∷ []) ≡ None
unfolding clap_on_literals
mirror_with_an_end_mark = refl

mirror_of_no_words : mirror_reading_of [] ≡ None
unfolding clap_on_literals
mirror_of_no_words = refl

of_notes_by_the_clock : reading_of (codes "osm" ∷ codes "notes" ∷ codes "--users=u" ∷ []) ≡ Some (notes (codes "u") None)
unfolding clap_on_literals
of_notes_by_the_clock = refl

of_notes_at_an_address : reading_of (codes "osm" ∷ codes "serve-notes" ∷ codes "--users=u" ∷ codes "--listen=a" ∷ codes "--workers=2" ∷ []) ≡ Some (serve_notes (codes "u") (codes "a") 2 None)
unfolding clap_on_literals
of_notes_at_an_address = refl

of_notes_until_the_input_ends : reading_of (codes "osm" ∷ codes "serve-notes" ∷ codes "--users=u" ∷ codes "--listen=a" ∷ codes "--workers=2" ∷ codes "--until-input-ends" ∷ [])
    ≡ Some (serve_notes (codes "u") (codes "a") 2 None)
unfolding clap_on_literals
of_notes_until_the_input_ends = refl

journal_of_notes : reading_of (codes "osm" ∷ codes "serve-notes" ∷ codes "--users=u" ∷ codes "--listen=a" ∷ codes "--workers=2" ∷ codes "--journal=j" ∷ [])
    ≡ Some (serve_notes (codes "u") (codes "a") 2 (Some (codes "j")))
unfolding clap_on_literals
journal_of_notes = refl
