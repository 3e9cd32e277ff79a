-- A host in memory: what it was made of, and what each call does.
use Rattle.std.specs.Prelude.{◌≡◌, ℕ, ◌+◌, ◌⊎◌, List, [], ◌∷◌, ◌++◌, length, map, Some}
use Rattle.osm_outside.specs.Port.{PortTold}
use Rattle.osm_outside.specs.Host.{HostTold}
use Rattle.osm_outside.specs.Memory.{Counted, IsBad, called}
use Rattle.osm_outside.specs.MemPort.{PortState, port_told_of}

-- a host in memory
pub record HostState : Type 0 where
  -- its users text
  pub text : List ℕ
  -- the paths at which it was asked for it, in order
  pub paths : List (List ℕ)
  -- the addresses at which it was asked to listen, in order
  pub addresses : List (List ℕ)
  -- the ports that it holds
  pub ports : List PortState
  -- what the ports that it handed out told then
  pub handed : List PortTold
  -- how many of them are out
  pub out : ℕ
  -- the ports that came back
  pub returned : List PortState
  pub calls : Counted

-- what the host tells
abbrev pub host_told_of : HostState → HostTold
host_told_of host = record {
  users = Some host.text;
  paths = host.paths;
  addresses = host.addresses;
  lent = record { handed = host.handed; back = map port_told_of host.returned; out = host.out };
  faults = host.calls.faults;
}

-- the host after it was asked for its users text at that path, with its calls then
abbrev pub asked_at : HostState → List ℕ → Counted → HostState
asked_at host path calls = record host { paths = host.paths ++ path ∷ []; calls = calls }

-- the host after it was asked to listen at that address, with its calls then
abbrev pub listened_at : HostState → List ℕ → Counted → HostState
listened_at host address calls = record host { addresses = host.addresses ++ address ∷ []; calls = calls }

-- Listening for so many workers fails: its call is a bad one, or the host doesn't hold as many ports.
abbrev pub FailsToListen : HostState → ℕ → Type 0
FailsToListen host workers = IsBad host.calls ⊎ ¬ (length host.ports ≡ workers)

-- All ports that the host held were handed out.
abbrev pub GivesPorts : List ℕ → HostState → HostState → List PortState → Type 0
GivesPorts address old new ports = (ports ≡ old.ports) × (new ≡ record old {
  ports = [];
  addresses = old.addresses ++ address ∷ [];
  handed = old.handed ++ map port_told_of old.ports;
  out = old.out + length old.ports;
  calls = called old.calls;
})
