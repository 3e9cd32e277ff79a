-- Sessions on ports.
use Rattle.std.specs.Prelude.{List, [], ◌∷◌, map, false}
use Rattle.link_workers.specs.declared.worker.Worker.{Worker}

-- each session on the port of the same number, as far as there are both; none has failed
abbrev pub seated : {S P : Type 0} → List S → List P → List (Worker S P)
seated [] ports = []
seated (session ∷ sessions) [] = []
seated (session ∷ sessions) (port ∷ ports) = record { session = session; port = port; failed = false } ∷ seated sessions ports

-- the sessions of workers, in order
abbrev pub sessions_of : {S P : Type 0} → List (Worker S P) → List S
sessions_of workers = map (λ w. w.session) workers

-- the ports of workers, in order
abbrev pub ports_of : {S P : Type 0} → List (Worker S P) → List P
ports_of workers = map (λ w. w.port) workers
