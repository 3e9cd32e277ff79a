-- What a host tells of itself, and what its calls do to it.
use Rattle.std.specs.Prelude.{◌≡◌, ℕ, ◌≤◌, List, [], ◌∷◌, ◌++◌, Option}
use Rattle.osm_outside.specs.Lent.{Lent, none_lent, hand_out, take_back}
use Rattle.osm_outside.specs.Port.{PortTold}

-- what was asked of a host so far
pub record HostAsked : Type 0 where
  -- the paths at which it was asked for a users text, in order
  pub paths : List (List ℕ)
  -- the addresses at which it was asked to listen, in order
  pub addresses : List (List ℕ)
  -- the ports that it handed out and took back
  pub lent : Lent PortTold

-- nothing yet
abbrev pub none_asked : HostAsked
none_asked = record { paths = []; addresses = []; lent = none_lent }

-- and then for the users text at that path
abbrev pub ask_at : HostAsked → List ℕ → HostAsked
ask_at asked path = record asked { paths = asked.paths ++ path ∷ [] }

-- and then to listen at that address
abbrev pub listen_at : HostAsked → List ℕ → HostAsked
listen_at asked address = record asked { addresses = asked.addresses ++ address ∷ [] }

-- and then these ports were handed out
abbrev pub hand_ports : HostAsked → List PortTold → HostAsked
hand_ports asked ports = record asked { lent = hand_out asked.lent ports }

-- and then this port was taken back
abbrev pub take_port : HostAsked → PortTold → HostAsked
take_port asked port = record asked { lent = take_back asked.lent port }

-- what a host tells
pub record HostTold : Type 0 where
  -- its users text, `None` where it doesn't tell
  pub users : Option (List ℕ)
  -- the paths at which it was asked for a users text, in order
  pub paths : List (List ℕ)
  -- the addresses at which it was asked to listen, in order
  pub addresses : List (List ℕ)
  -- the ports that it handed out and took back
  pub lent : Lent PortTold
  -- how often its calls have failed
  pub faults : ℕ

-- It was asked once for the users text, at that path; nothing else but its count of faults changes.
pub record OnlyAsked (path : List ℕ) (old new : HostTold) : Type 0 where
  pub users : new.users ≡ old.users
  pub paths : new.paths ≡ old.paths ++ path ∷ []
  pub addresses : new.addresses ≡ old.addresses
  pub lent : new.lent ≡ old.lent
  pub faults : old.faults ≤ new.faults

-- Nothing but its count of faults changes.
pub record OnlyFaults (old new : HostTold) : Type 0 where
  pub users : new.users ≡ old.users
  pub paths : new.paths ≡ old.paths
  pub addresses : new.addresses ≡ old.addresses
  pub lent : new.lent ≡ old.lent
  pub faults : old.faults ≤ new.faults

-- It was asked once to listen, at that address; nothing else but its ports and its count of faults changes.
pub record OnlyPorts (address : List ℕ) (old new : HostTold) : Type 0 where
  pub users : new.users ≡ old.users
  pub paths : new.paths ≡ old.paths
  pub addresses : new.addresses ≡ old.addresses ++ address ∷ []
  pub faults : old.faults ≤ new.faults
