-- Changesets: when they are open, their box, and their record after work (wiki, "Changesets").
use Rattle.std.specs.Prelude.{ℕ, ◌+◌, min, Bool, true, false, not, ◌&&◌, nat_lt, if◌then◌else◌, List, [], ◌∷◌, ◌++◌, length, ◌==◌, fold, filter_map, Option, Some, None, option_to_list, option_and_then}
use Rattle.std.specs.Option.{option_map_or}
use Rattle.osm_base.specs.Place.{Position, Area, at_position, area_with, area_join, square_units}
use Rattle.osm_base.specs.declared.keys.Key.{Key}
use Rattle.osm_base.specs.declared.limits.TheConstants.{CHANGE_LIMIT, LARGE_CHANGE_LIMIT}
use Rattle.std.specs.Ordering.{int_eq}
use Rattle.osm_base.specs.declared.people.Owner.{Owner}
use Rattle.osm_element.specs.Elements.{position, position_in, refs_in, refs_of}
use Rattle.osm_element.specs.Tags.{Tag}
use Rattle.osm_element.specs.declared.contents.Content.{Content}
use Rattle.osm_element.specs.declared.elements.Elements.{Elements}
use Rattle.changeset_core.specs.declared.records.ChangesetRecord.{ChangesetRecord}
use Rattle.changeset_core.specs.declared.records.Work.{Work}

-- an hour after the last activity and a day after the creation at the latest, unless it was closed
abbrev pub closes_by : ℕ → ℕ → Option ℕ → ℕ
closes_by created activity ended = option_map_or (λ t. t) ended (min (activity + 3600) (created + 86400))

abbrev pub closes : ChangesetRecord → ℕ
closes r = closes_by r.created r.activity r.ended

abbrev pub is_open : ChangesetRecord → ℕ → Bool
is_open r t = nat_lt t (closes r)

-- when it closed, where it isn't open
abbrev pub closed_at : ChangesetRecord → ℕ → Option ℕ
closed_at r t = if is_open r t then None else Some (closes r)

-- the most changes of a changeset that is created at a stamp, by the moment from which they may be many
abbrev pub first_limit : Option ℕ → ℕ → ℕ
first_limit None t = CHANGE_LIMIT
first_limit (Some from) t = if nat_lt t from then CHANGE_LIMIT else LARGE_CHANGE_LIMIT

-- the record of a changeset that its owner opens at a stamp
abbrev pub first_record : Owner → List Tag → ℕ → ℕ → ChangesetRecord
first_record owner tags t limit = record {
  owner = owner;
  tags = tags;
  created = t;
  activity = t;
  ended = None;
  limit = limit;
  touched = None;
  did = [];
}

-- the most changes that it may make
abbrev pub limit_of : ChangesetRecord → ℕ
limit_of r = r.limit

-- other tags, which is activity
abbrev pub retagged : ChangesetRecord → List Tag → ℕ → ChangesetRecord
retagged r tags t = record r { tags = tags; activity = t }

abbrev pub ended_at : ChangesetRecord → ℕ → ChangesetRecord
ended_at r t = record r { ended = Some t }

abbrev pub new_position : Option (Content ℕ) → Option Position
new_position new = option_and_then position_in new

-- the positions that a new content of an element touches: the old and the new one of a node, and
-- those of the nodes that the old and the new content list
abbrev pub touched_positions : Elements → Key → Option (Content ℕ) → List Position
touched_positions E k new =
    filter_map (position E) (k ∷ (refs_of E k ++ refs_in new)) ++ option_to_list (new_position new)

abbrev pub widen : Option Area → Position → Option Area
widen area p = Some (option_map_or (λ a. area_with a p) area (at_position p))

abbrev pub widen_all : Option Area → List Position → Option Area
widen_all area ps = fold widen area ps

-- the area with the places of those of these elements that are visible nodes
abbrev pub widen_by : Elements → Option Area → List Key → Option Area
widen_by E area ks = widen_all area (filter_map (position E) ks)

-- the least box of what a new content of an element touches, if that is anything
abbrev pub touched_area : Elements → Key → Option (Content ℕ) → Option Area
touched_area E k new = widen_all None (touched_positions E k new)

-- the least area with both, where there is any
abbrev pub join_areas : Option Area → Option Area → Option Area
join_areas None more = more
join_areas (Some a) None = Some a
join_areas (Some a) (Some b) = Some (area_join a b)

abbrev pub area_eq : Area → Area → Bool
area_eq a b = int_eq a.left b.left && int_eq a.bottom b.bottom && int_eq a.right b.right && int_eq a.top b.top

-- the two areas, of which there may be none, are one
abbrev pub same_area : Option Area → Option Area → Bool
same_area None None = true
same_area None (Some b) = false
same_area (Some a) None = false
same_area (Some a) (Some b) = area_eq a b

-- the area past a limit that the record has with this area, where that is another than before
abbrev pub past_limit : ℕ → Option Area → Option Area → Option ℕ
past_limit limit before None = None
past_limit limit before (Some after) =
    if not (same_area before (Some after)) && nat_lt limit (square_units after) then Some (square_units after) else None

-- the record after an upload at a stamp that made these versions, none where nothing was applied,
-- and touched this area: what was applied is activity
abbrev pub worked_by : ChangesetRecord → List Work → Option Area → ℕ → ChangesetRecord
worked_by r works area t = record r {
  activity = if length works == 0 then r.activity else t;
  touched = join_areas r.touched area;
  did = r.did ++ works;
}
