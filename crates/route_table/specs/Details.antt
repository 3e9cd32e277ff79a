-- What a target says besides its resource.
use Rattle.std.specs.Prelude.{ℕ, List, [], map, slice_index_or, Option}
use Rattle.matchit.specs.Router.{RouteOf}
use Rattle.matchit.specs.Params.{walk}
use Rattle.matchit.specs.declared.params.Params.{Params}
use Rattle.route_table.specs.declared.resources.Resource.{Resource}

pub record Details : Type 0 where
  -- what the first braced part of the path took, and the second
  pub id : List ℕ
  pub version : List ℕ
  pub query : Option (List ℕ)

-- what the braced parts of a route took of a path, in order
abbrev pub taken : RouteOf Resource → List ℕ → List (List ℕ)
taken route path = map (λ part. part.1) (walk route.pattern route.text path route.names 0 0)

abbrev pub details_of : RouteOf Resource → List ℕ → Option (List ℕ) → Details
details_of route path query = record {
  id = slice_index_or (taken route path) 0 [];
  version = slice_index_or (taken route path) 1 [];
  query = query;
}

-- ---- for private clauses

-- the same of what a match says
abbrev pub taken_by : Params → List (List ℕ)
taken_by m = map (λ part. part.1) (walk m.pattern.now m.text.now m.path.now m.names.now 0 0)
