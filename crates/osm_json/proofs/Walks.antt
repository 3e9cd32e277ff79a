-- Walking through elements and blocks.
use Rattle.std.proofs.Common.{◌≡◌, ℕ, ◌+◌, ◌≤◌, List, [], ◌∷◌, ◌++◌, length, take, drop, map, codes, ℤ, Bool, true, false, Option, Some, None, option_map, Result, Ok, Err, refl, sym, ap, ap₂, ◌∙◌, append_assoc, arith}
use Rattle.std.proofs.lemmas.List.{append-nil, length_push, map-append, take_all, drop_all, take-append-le, drop-append-le, length-append, length-map, length-take, length-drop}
use Rattle.serde_json.specs.Data.{Data, Items, no_items, item}
use Rattle.serde_json.specs.Find.{get, as_array}
use Rattle.osm_base.specs.declared.keys.Kind.{Kind}
use Rattle.osm_change.specs.declared.raw.Action.{Action}
use Rattle.osm_change.specs.declared.raw.Action.TheVariants.{Delete}
use Rattle.osm_change.specs.declared.raw.RawOp.{RawOp}
use Rattle.osm_json.specs.declared.fault.BodyFault.{BodyFault}
use Rattle.osm_json.specs.Reading.{◌>>=◌, Block, Step, each_of, list_of, steps_among, steps_of, block_of, blocks_of, needed, optional, kind_of, id_of, count_of, operation_of, operations_from, read_first, operations_in}
use Rattle.osm_json.specs.Walked.{Sight, with_next, walk_from, walk_one, walk_all, walk_list, walk_block, walk_blocks, walk_value, walk_document, outcome, only_unused, mark_ops, mark}
use Rattle.osm_json.proofs.Turns.{items_after, items_push}

-- ---- one after the other

-- the elements in front were walked through
pub record WalkedFront (action : Action) (front : List Data) (old now : Sight) : Type 0 where
  pub all : (rest : Items) → walk_all action (items_after front rest) old ≡ walk_all action rest now

pub none_walked : (action : Action) (s : Sight) → WalkedFront action [] s s
none_walked action s = record { all = λ rest. refl }

pub one_walked : (action : Action) (front : List Data) (old now new : Sight) (d : Data) → WalkedFront action front old now → walk_one action d now ≡ new → WalkedFront action (front ++ d ∷ []) old new
one_walked action front old now new d h e = record { all = λ rest. ap (λ ds. walk_all action ds old) (sym (items_push front d rest)) ∙ h.all (item d rest) ∙ ap (walk_all action rest) e }

-- the blocks in front were walked through
pub record WalkedBlocks (front : List Data) (old now : Sight) : Type 0 where
  pub all : (rest : Items) → walk_blocks (items_after front rest) old ≡ walk_blocks rest now

pub no_block_walked : (s : Sight) → WalkedBlocks [] s s
no_block_walked s = record { all = λ rest. refl }

pub block_walked : (front : List Data) (old now new : Sight) (d : Data) → WalkedBlocks front old now → walk_block now d ≡ Some new → WalkedBlocks (front ++ d ∷ []) old new
block_walked front old now new d h e = record { all = λ rest. ap (λ ds. walk_blocks ds old) (sym (items_push front d rest)) ∙ h.all (item d rest) ∙ ap (λ o. o >>= walk_blocks rest) e }

pub no_block : (front : List Data) (old now : Sight) (d : Data) (rest : Items) → WalkedBlocks front old now → walk_block now d ≡ None → walk_blocks (items_after (front ++ d ∷ []) rest) old ≡ None
no_block front old now d rest h e = ap (λ ds. walk_blocks ds old) (sym (items_push front d rest)) ∙ h.all (item d rest) ∙ ap (λ o. o >>= walk_blocks rest) e

-- ---- the operations that the definition reads

-- those before, and those that are still to be read
abbrev with_front : List RawOp → Result (List RawOp) BodyFault → Result (List RawOp) BodyFault
with_front front (Ok ops) = Ok (front ++ ops)
with_front front (Err fault) = Err fault

abbrev walk_steps : List Step → Sight → Sight
walk_steps [] s = s
walk_steps (step ∷ more) s = walk_steps more (walk_one step.0 step.1 s)

walk_all-steps : (action : Action) (ds : Items) (more : List Step) (s : Sight) → walk_steps (steps_among action ds ++ more) s ≡ walk_steps more (walk_all action ds s)
walk_all-steps action no_items more s = refl
walk_all-steps action (item d ds) more s = walk_all-steps action ds more (walk_one action d s)

with_first : (block : Block) (o : Option (List Block)) (s : Sight)
    → option_map (λ blocks. walk_steps (steps_of blocks) (walk_all block.action block.elements s)) o ≡ option_map (λ blocks. walk_steps (steps_of blocks) s) (o >>= λ xs. Some (block ∷ xs))
with_first block None s = refl
with_first block (Some blocks) s = ap (λ t. Some t) (sym (walk_all-steps block.action block.elements (steps_of blocks) s))

one_of_blocks : (o : Option Block) (more : Items) (s : Sight) → ((t : Sight) → walk_blocks more t ≡ option_map (λ blocks. walk_steps (steps_of blocks) t) (each_of block_of more))
    → (option_map (λ block. walk_all block.action block.elements s) o >>= walk_blocks more) ≡ option_map (λ blocks. walk_steps (steps_of blocks) s) (o >>= λ x. each_of block_of more >>= λ xs. Some (x ∷ xs))
one_of_blocks None more s h = refl
one_of_blocks (Some block) more s h = h (walk_all block.action block.elements s) ∙ with_first block (each_of block_of more) s

-- where each is a block, the walk is through the steps of all
blocks_steps : (ds : Items) (s : Sight) → walk_blocks ds s ≡ option_map (λ blocks. walk_steps (steps_of blocks) s) (each_of block_of ds)
blocks_steps no_items s = refl
blocks_steps (item d more) s = one_of_blocks (block_of d) more s (λ t. blocks_steps more t)

stuck : (steps : List Step) (ops : List RawOp) (n : ℕ) → walk_steps steps (ops, Some n) ≡ (ops, Some n)
stuck [] ops n = refl
stuck (step ∷ more) ops n = stuck more ops n

goes_on : (ops : List RawOp) (op : RawOp) (rest : Result (List RawOp) BodyFault) (n : ℕ) → with_front ops (read_first n (Some op) rest) ≡ with_front (ops ++ op ∷ []) rest
goes_on ops op (Ok more) n = ap (λ (all : List RawOp). Ok all) (sym (append_assoc ops (op ∷ []) more))
goes_on ops op (Err fault) n = refl

abbrev Ends : List Step → List RawOp → Type 0
Ends steps ops = outcome (Some (walk_steps steps (ops, None))) ≡ with_front ops (operations_from (length ops + 1) steps)

one_step : (ops : List RawOp) (o : Option RawOp) (more : List Step) → ((new : List RawOp) → Ends more new)
    → outcome (Some (walk_steps more (with_next ops o))) ≡ with_front ops (read_first (length ops + 1) o (operations_from (length ops + 1 + 1) more))
one_step ops None more h = ap (λ s. outcome (Some s)) (stuck more ops (length ops + 1))
one_step ops (Some op) more h = h (ops ++ op ∷ []) ∙ ap (λ n. with_front (ops ++ op ∷ []) (operations_from (n + 1) more)) (length_push ops op) ∙ sym (goes_on ops op _ (length ops + 1))

ends : (steps : List Step) (ops : List RawOp) → Ends steps ops
unfolding operations_from
ends [] ops = ap (λ (all : List RawOp). Ok all) (sym (append-nil ops))
ends (step ∷ more) ops = one_step ops (operation_of step.0 step.1) more (λ new. ends more new)

no_front : (r : Result (List RawOp) BodyFault) → with_front [] r ≡ r
no_front (Ok ops) = refl
no_front (Err fault) = refl

all_blocks : (o : Option (List Block)) → outcome (option_map (λ blocks. walk_steps (steps_of blocks) ([], None)) o) ≡ operations_in o
all_blocks None = refl
all_blocks (Some blocks) = ends (steps_of blocks) [] ∙ no_front (operations_from 1 (steps_of blocks))

of_list : (o : Option Items) → outcome (walk_value o) ≡ operations_in (o >>= each_of block_of)
of_list None = refl
of_list (Some ds) = ap outcome (blocks_steps ds ([], None)) ∙ all_blocks (each_of block_of ds)

of_member : (o : Option Data) → outcome (walk_document o) ≡ operations_in (o >>= list_of block_of)
of_member None = refl
of_member (Some d) = of_list (as_array d)

-- what the walk leads to is what the definition reads
pub walk_reads : (d : Data) → outcome (walk_document (get (codes "osmChange") d)) ≡ operations_in (blocks_of d)
unfolding blocks_of
walk_reads d = of_member (get (codes "osmChange") d)

-- ---- what was read stays in front

pub record Extends (old new : List RawOp) : Type 0 where
  pub rest : List RawOp
  pub is : new ≡ old ++ rest

extends_same : (ops : List RawOp) → Extends ops ops
extends_same ops = record { rest = []; is = sym (append-nil ops) }

extends_more : (a b c : List RawOp) → Extends a b → Extends b c → Extends a c
extends_more a b c h k = record { rest = h.rest ++ k.rest; is = k.is ∙ ap (λ x. x ++ k.rest) h.is ∙ append_assoc a h.rest k.rest }

extends_next : (ops : List RawOp) (o : Option RawOp) → Extends ops (with_next ops o).0
extends_next ops None = extends_same ops
extends_next ops (Some op) = record { rest = op ∷ []; is = refl }

extends_one : (action : Action) (d : Data) (ops : List RawOp) (f : Option ℕ) → Extends ops (walk_from action d ops f).0
extends_one action d ops None = extends_next ops (operation_of action d)
extends_one action d ops (Some n) = extends_same ops

extends_all : (action : Action) (ds : Items) (s : Sight) → Extends s.0 (walk_all action ds s).0
extends_all action no_items s = extends_same s.0
extends_all action (item d more) s = extends_more _ _ _ (extends_one action d s.0 s.1) (extends_all action more (walk_one action d s))

pub extends_list : (action : Action) (s : Sight) (o : Option Items) → Extends s.0 (walk_list action s o).1.0
extends_list action s None = extends_same s.0
extends_list action s (Some ds) = extends_all action ds s

-- the front of that length stays
pub record Keeps (start : ℕ) (base ops : List RawOp) : Type 0 where
  pub front : take start ops ≡ base
  pub long : start ≤ length ops

pub keeps_extended : (start : ℕ) (base ops : List RawOp) → start ≡ length base → Extends base ops → Keeps start base ops
keeps_extended start base ops e h =
    let grown : length ops ≡ length base + length h.rest = ap length h.is ∙ length-append base h.rest in
    let le : start ≤ length base = omega arith in
    record { front = ap (take start) h.is ∙ take-append-le start base h.rest le ∙ take_all start base (omega arith); long = omega arith }

-- ---- deletions that are told their condition at the end

abbrev deletion : Bool → Option Kind → Option ℤ → Option (Option ℕ) → Option (Option ℕ) → Option RawOp
deletion if_unused k i v g = k >>= λ kind. i >>= λ id. v >>= λ version. g >>= λ changeset. Some (record { action = Delete if_unused; kind = kind; id = id; version = version; changeset = changeset; content = None; tags = [] })

unused_deletion : (k : Option Kind) (i : Option ℤ) (v g : Option (Option ℕ)) → deletion true k i v g ≡ option_map only_unused (deletion false k i v g)
unused_deletion None i v g = refl
unused_deletion (Some k) None v g = refl
unused_deletion (Some k) (Some i) None g = refl
unused_deletion (Some k) (Some i) (Some v) None = refl
unused_deletion (Some k) (Some i) (Some v) (Some g) = refl

unused_op : (d : Data) → operation_of (Delete true) d ≡ option_map only_unused (operation_of (Delete false) d)
unfolding operation_of
unused_op d = unused_deletion (needed (codes "type") kind_of d) (needed (codes "id") id_of d) (optional (codes "version") count_of d) (optional (codes "changeset") count_of d)

module _ (start : ℕ) where
  mark_length : (ops : List RawOp) → start ≤ length ops → length (mark_ops start ops) ≡ length ops
  mark_length ops le = omega (arith, length-append (take start ops) (map only_unused (drop start ops)), length-map (drop start ops) only_unused, length-take start ops, length-drop start ops)

  mark_push : (ops : List RawOp) (op : RawOp) → start ≤ length ops → mark_ops start (ops ++ op ∷ []) ≡ mark_ops start ops ++ only_unused op ∷ []
  mark_push ops op le =
      ap₂ (λ a b. a ++ map only_unused b) (take-append-le start ops (op ∷ []) le) (drop-append-le start ops (op ∷ []) le)
      ∙ ap (λ b. take start ops ++ b) (map-append only_unused (drop start ops) (op ∷ []))
      ∙ sym (append_assoc (take start ops) (map only_unused (drop start ops)) (only_unused op ∷ []))

  mark_next : (ops : List RawOp) (o : Option RawOp) → start ≤ length ops → mark start (with_next ops o) ≡ with_next (mark_ops start ops) (option_map only_unused o)
  mark_next ops None le = ap (λ n. (mark_ops start ops, Some (n + 1))) (sym (mark_length ops le))
  mark_next ops (Some op) le = ap (λ all. (all, None)) (mark_push ops op le)

  mark_one : (d : Data) (ops : List RawOp) (f : Option ℕ) → start ≤ length ops → mark start (walk_from (Delete false) d ops f) ≡ walk_from (Delete true) d (mark_ops start ops) f
  mark_one d ops None le = mark_next ops (operation_of (Delete false) d) le ∙ ap (with_next (mark_ops start ops)) (sym (unused_op d))
  mark_one d ops (Some n) le = refl

  mark_all : (ds : Items) (s : Sight) → start ≤ length s.0 → mark start (walk_all (Delete false) ds s) ≡ walk_all (Delete true) ds (mark start s)
  mark_all no_items s le = refl
  mark_all (item d more) s le =
      let h = extends_one (Delete false) d s.0 s.1 in
      let grown : length (walk_one (Delete false) d s).0 ≡ length s.0 + length h.rest = ap length h.is ∙ length-append s.0 h.rest in
      mark_all more (walk_one (Delete false) d s) (omega arith) ∙ ap (walk_all (Delete true) more) (mark_one d s.0 s.1 le)

  mark_none : (ops : List RawOp) → start ≡ length ops → mark_ops start ops ≡ ops
  mark_none ops e =
      let le : length ops ≤ start = omega arith in
      ap₂ (λ a b. a ++ map only_unused b) (take_all start ops le) (drop_all start ops le) ∙ append-nil ops

  pub marked : (ds : Items) (s : Sight) → start ≡ length s.0 → mark start (walk_all (Delete false) ds s) ≡ walk_all (Delete true) ds s
  marked ds s e = mark_all ds s (omega arith) ∙ ap (λ ops. walk_all (Delete true) ds (ops, s.1)) (mark_none s.0 e)
