-- Operations in blocks: they are read one after the other, and written so.
use Rattle.std.proofs.Common.{◌≡◌, ℕ, ◌+◌, Bool, true, false, List, [], ◌∷◌, ◌++◌, map, flat_map, codes, Option, Some, None, Ok, refl, sym, ap, ◌∙◌, append_assoc, append-nil}
use Rattle.std.specs.Prelude.{All, if◌then◌else◌}
use Rattle.std.proofs.lemmas.List.Elements.{All-head, All-tail}
use Rattle.json.specs.Token.{Token, begin_object, end_object, begin_array, end_array}
use Rattle.serde_json.specs.Data.{Items, no_items, item}
use Rattle.serde_json.specs.View.{items_of}
use Rattle.serde_json.specs.Written.{items_outline}
use Rattle.json.specs.Tree.{items_tokens}
use Rattle.osm_change.specs.declared.raw.Action.{Action}
use Rattle.osm_change.specs.declared.raw.Action.TheVariants.{Create, Modify, Delete}
use Rattle.osm_change.specs.declared.raw.RawOp.{RawOp}
use Rattle.osm_json.specs.Reading.{◌>>=◌, Block, Step, each_of, list_of as list_read, block_of, steps_among, steps_of, operation_of, read_first, operations_from, operations_in}
use Rattle.osm_json.specs.Blocks.{opened, closed, turned, left}
use Rattle.osm_json.specs.Sent.{tokens_of, field_tokens}
use Rattle.osm_json.specs.Shown.{record_of, list_of}
use Rattle.osm_json.specs.Uploads.{action_eq, block_with, before_blocks, in_blocks, given_block, given_op, step_of, given_ops}

-- ---- actions

pub action_same : (a b : Action) → action_eq a b ≡ true → a ≡ b
action_same Create Create e = refl
action_same Modify Modify e = refl
action_same (Delete true) (Delete true) e = refl
action_same (Delete false) (Delete false) e = refl
action_same (Delete true) (Delete false) e = cc
action_same (Delete false) (Delete true) e = cc
action_same Create Modify e = cc
action_same Create (Delete b) e = cc
action_same Modify Create e = cc
action_same Modify (Delete b) e = cc
action_same (Delete true) Create e = cc
action_same (Delete false) Create e = cc
action_same (Delete true) Modify e = cc
action_same (Delete false) Modify e = cc

-- ---- the steps of the blocks

joined_step : (b : Bool) (s : Step) (block : Block) (bs : List Block) → (b ≡ true → s.0 ≡ block.action)
    → steps_of (if b then (record { action = block.action; elements = item s.1 block.elements }) ∷ bs else block_with s ∷ block ∷ bs) ≡ s ∷ steps_of (block ∷ bs)
joined_step true s block bs same = ap (λ (a : Action). (a, s.1) ∷ (steps_among block.action block.elements ++ steps_of bs)) (sym (same refl))
joined_step false s block bs same = refl

before-steps : (s : Step) (bs : List Block) → steps_of (before_blocks s bs) ≡ s ∷ steps_of bs
before-steps s [] = refl
before-steps s (b ∷ bs) = joined_step (action_eq s.0 b.action) s b bs (action_same s.0 b.action)

pub steps-in_blocks : (ss : List Step) → steps_of (in_blocks ss) ≡ ss
steps-in_blocks [] = refl
steps-in_blocks (s ∷ more) = before-steps s (in_blocks more) ∙ ap (λ (ts : List Step). s ∷ ts) (steps-in_blocks more)

-- ---- reading

block_parts : (a : Action) (elements : Items) → block_of (given_block (record { action = a; elements = elements })) ≡ Some (record { action = a; elements = elements })
unfolding block_of given_block record_of
block_parts Create elements = refl
block_parts Modify elements = refl
block_parts (Delete true) elements = refl
block_parts (Delete false) elements = refl

block_again : (b : Block) → block_of (given_block b) ≡ Some b
block_again b = block_parts b.action b.elements

blocks_again : (bs : List Block) → each_of block_of (items_of (map given_block bs)) ≡ Some bs
blocks_again [] = refl
blocks_again (b ∷ bs) =
    ap (λ (o : Option Block). o >>= λ x. each_of block_of (items_of (map given_block bs)) >>= λ xs. Some (x ∷ xs)) (block_again b)
    ∙ ap (λ (o : Option (List Block)). o >>= λ xs. Some (b ∷ xs)) (blocks_again bs)

abbrev pub IsReadSo : RawOp → Type 0
IsReadSo r = operation_of r.action (given_op r) ≡ Some r

all_read : (n : ℕ) (rs : List RawOp) → All IsReadSo rs → operations_from n (map step_of rs) ≡ Ok rs
unfolding operations_from
all_read n [] h = refl
all_read n (r ∷ rs) h =
    ap (λ (o : Option RawOp). read_first n o (operations_from (n + 1) (map step_of rs))) (All-head IsReadSo r rs h)
    ∙ ap (read_first n (Some r)) (all_read (n + 1) rs (All-tail IsReadSo r rs h))

-- operations that are each read so are read so from their blocks
pub ops_again : (rs : List RawOp) → All IsReadSo rs → operations_in (list_read block_of (given_ops rs)) ≡ Ok rs
unfolding given_ops list_of
ops_again rs h =
    ap operations_in (blocks_again (in_blocks (map step_of rs)))
    ∙ ap (operations_from 1) (steps-in_blocks (map step_of rs))
    ∙ all_read 1 rs h

-- ---- writing

abbrev elements_tokens : Items → List Token
elements_tokens no_items = []
elements_tokens (item d ds) = tokens_of d ++ elements_tokens ds

elements_end : (ds : Items) → items_tokens (items_outline ds) ≡ elements_tokens ds ++ end_array ∷ []
unfolding tokens_of
elements_end no_items = refl
elements_end (item d ds) = ap (λ ts. tokens_of d ++ ts) (elements_end ds) ∙ sym (append_assoc (tokens_of d) (elements_tokens ds) (end_array ∷ []))

abbrev blocks_tokens : List Block → List Token
blocks_tokens bs = flat_map (λ b. tokens_of (given_block b)) bs

-- the block that was opened, and those behind it
abbrev inside : Action → Items → List Block → List Token
inside a ds bs = elements_tokens ds ++ (closed a ++ blocks_tokens bs)

block_at : (a : Action) (ds : Items) → tokens_of (given_block (record { action = a; elements = ds })) ≡ opened a ++ (elements_tokens ds ++ closed a)
unfolding tokens_of field_tokens given_block record_of
block_at Create ds = ap (λ ts. begin_object ∷ Token.key (codes "create") ∷ begin_array ∷ (ts ++ end_object ∷ [])) (elements_end ds) ∙ ap (λ ts. opened Create ++ ts) (append_assoc (elements_tokens ds) (end_array ∷ []) (end_object ∷ []))
block_at Modify ds = ap (λ ts. begin_object ∷ Token.key (codes "modify") ∷ begin_array ∷ (ts ++ end_object ∷ [])) (elements_end ds) ∙ ap (λ ts. opened Modify ++ ts) (append_assoc (elements_tokens ds) (end_array ∷ []) (end_object ∷ []))
block_at (Delete true) ds =
    ap (λ ts. begin_object ∷ Token.key (codes "delete") ∷ begin_array ∷ (ts ++ Token.key (codes "if-unused") ∷ Token.boolean true ∷ end_object ∷ [])) (elements_end ds)
    ∙ ap (λ ts. opened (Delete true) ++ ts) (append_assoc (elements_tokens ds) (end_array ∷ []) (Token.key (codes "if-unused") ∷ Token.boolean true ∷ end_object ∷ []))
block_at (Delete false) ds =
    ap (λ ts. begin_object ∷ Token.key (codes "delete") ∷ begin_array ∷ (ts ++ end_object ∷ [])) (elements_end ds)
    ∙ ap (λ ts. opened (Delete false) ++ ts) (append_assoc (elements_tokens ds) (end_array ∷ []) (end_object ∷ []))

first_block : (b : Block) (bs : List Block) → blocks_tokens (b ∷ bs) ≡ opened b.action ++ inside b.action b.elements bs
first_block b bs =
    ap (λ ts. ts ++ blocks_tokens bs) (block_at b.action b.elements)
    ∙ append_assoc (opened b.action) (elements_tokens b.elements ++ closed b.action) (blocks_tokens bs)
    ∙ ap (λ ts. opened b.action ++ ts) (append_assoc (elements_tokens b.elements) (closed b.action) (blocks_tokens bs))

-- what is left where a block of that action is open, by the blocks of what follows
abbrev going_on : Action → List Block → List Token
going_on a [] = closed a
going_on a (b ∷ bs) = if action_eq a b.action then inside b.action b.elements bs else closed a ++ blocks_tokens (b ∷ bs)

abbrev NextStep : Action → Step → List Block → Type 0
NextStep a s bs = turned (Some a) s.0 ++ (tokens_of s.1 ++ going_on s.0 bs) ≡ going_on a (before_blocks s bs)

same_action : (a : Action) (s : Step) (b : Bool) (ts us : List Token) → ts ≡ us
    → (if b then [] else closed a ++ opened s.0) ++ ts ≡ (if b then us else closed a ++ (opened s.0 ++ us))
same_action a s true ts us e = e
same_action a s false ts us e = append_assoc (closed a) (opened s.0) ts ∙ ap (λ ws. closed a ++ (opened s.0 ++ ws)) e

-- the first block behind is open, or a new one is
abbrev either_block : Bool → Step → Block → List Block → List Block
either_block same s b bs = if same then (record { action = b.action; elements = item s.1 b.elements }) ∷ bs else block_with s ∷ b ∷ bs

-- the first block with the step in front
first_inside : (s : Step) (b : Block) (bs : List Block) (same : Bool) → action_eq s.0 b.action ≡ same
    → (block : Block) × (rest : List Block) × (before_blocks s (b ∷ bs) ≡ block ∷ rest) × (block.action ≡ s.0) × (tokens_of s.1 ++ going_on s.0 (b ∷ bs) ≡ inside block.action block.elements rest)
first_inside s b bs true e = (
  record { action = b.action; elements = item s.1 b.elements },
  bs,
  ap (λ same. either_block same s b bs) e,
  sym (action_same s.0 b.action e),
  ap (λ (same : Bool). tokens_of s.1 ++ (if same then inside b.action b.elements bs else closed s.0 ++ blocks_tokens (b ∷ bs))) e
      ∙ sym (append_assoc (tokens_of s.1) (elements_tokens b.elements) (closed b.action ++ blocks_tokens bs)),
)
first_inside s b bs false e = (
  block_with s,
  b ∷ bs,
  ap (λ same. either_block same s b bs) e,
  refl,
  ap (λ (same : Bool). tokens_of s.1 ++ (if same then inside b.action b.elements bs else closed s.0 ++ blocks_tokens (b ∷ bs))) e
      ∙ ap (λ ts. ts ++ (closed s.0 ++ blocks_tokens (b ∷ bs))) (sym (append-nil (tokens_of s.1))),
)

first_of : (s : Step) (bs : List Block)
    → (block : Block) × (rest : List Block) × (before_blocks s bs ≡ block ∷ rest) × (block.action ≡ s.0) × (tokens_of s.1 ++ going_on s.0 bs ≡ inside block.action block.elements rest)
first_of s [] = (
  block_with s,
  [],
  refl,
  refl,
  ap (λ ts. tokens_of s.1 ++ ts) (sym (append-nil (closed s.0))) ∙ ap (λ ts. ts ++ (closed s.0 ++ [])) (sym (append-nil (tokens_of s.1))),
)
first_of s (b ∷ bs) = first_inside s b bs (action_eq s.0 b.action) refl

next_step : (a : Action) (s : Step) (bs : List Block) → NextStep a s bs
next_step a s bs =
    let first = first_of s bs in
    let block = first.0 in
    let rest = first.1 in
    same_action a s (action_eq a s.0) _ _ first.4
    ∙ ap (λ (b : Action). if action_eq a b then inside block.action block.elements rest else closed a ++ (opened b ++ inside block.action block.elements rest)) (sym first.3)
    ∙ ap (λ ts. if action_eq a block.action then inside block.action block.elements rest else closed a ++ ts) (sym (first_block block rest))
    ∙ ap (going_on a) (sym first.2)

left_open : (a : Action) (ss : List Step) → left (Some a) ss ≡ going_on a (in_blocks ss)
left_open a [] = refl
left_open a (s ∷ more) = ap (λ ts. turned (Some a) s.0 ++ (tokens_of s.1 ++ ts)) (left_open s.0 more) ∙ next_step a s (in_blocks more)

-- written one operation after another, the blocks are these
pub left_all : (ss : List Step) → left None ss ≡ blocks_tokens (in_blocks ss)
left_all [] = refl
left_all (s ∷ more) =
    let first = first_of s (in_blocks more) in
    let block = first.0 in
    let rest = first.1 in
    ap (λ ts. opened s.0 ++ (tokens_of s.1 ++ ts)) (left_open s.0 more)
    ∙ ap (λ ts. opened s.0 ++ ts) first.4
    ∙ ap (λ (b : Action). opened b ++ inside block.action block.elements rest) (sym first.3)
    ∙ sym (first_block block rest)
    ∙ ap blocks_tokens (sym first.2)
