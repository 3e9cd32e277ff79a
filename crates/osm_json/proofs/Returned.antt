-- What was written is read from its tokens, and what is drawn from tokens.
use Rattle.osm_base.specs.declared.keys.Kind.{Kind}
use Rattle.std.proofs.Common.{Bool, ◌≡◌, ℕ, ◌^◌, ◌<◌, ◌≤◌, codes, length, List, ◌++◌, Option, Some, None, option_map, Result, Ok, Err, refl, sym, ap, ◌∙◌, arith, Vec, Global}
use Rattle.std.specs.Prelude.{All}
use Rattle.std.specs.Result.{IfOk}
use Rattle.json.specs.Token.{Token}
use Rattle.serde_json.specs.Data.{Data, depth, boolean, string, object, no_members, member}
use Rattle.serde_json.specs.Find.{as_array, as_bool, as_str}
use Rattle.osm_element.specs.Tags.{Tag, KeysRise}
use Rattle.osm_change.specs.Build.{IsRaw}
use Rattle.osm_change.specs.declared.raw.RawOp.{RawOp}
use Rattle.osm_json.specs.declared.fault.BodyFault.{BodyFault}
use Rattle.osm_json.specs.declared.fault.BodyFault.TheVariants as bodies
use Rattle.osm_json.specs.declared.fault.ReadFault.{ReadFault}
use Rattle.osm_json.specs.declared.fault.ReadFault.TheVariants.{NotJson}
use Rattle.osm_json.specs.Drawn.{drawn_of}
use Rattle.osm_json.specs.Again.{IsPlainData, natural_of, read_as, next_as, all_ops, ops_of, Draws}
use Rattle.osm_json.specs.Pull.{Pulls, Pulled}
use Rattle.osm_json.specs.Reading.{Gives, kind_of, tags_of, list_of, block_of, blocks_of, operations_in}
use Rattle.osm_json.specs.Rows.{tags as tags_data}
use Rattle.osm_json.specs.Sent.{tokens_of}
use Rattle.osm_json.specs.Shown.{natural, kind}
use Rattle.osm_json.specs.Uploads.{given_ops}
use Rattle.osm_json.specs.Walked.{Sight, walk_value, outcome}
use Rattle.osm_json.proofs.Given.{kind_again, tags_again}
use Rattle.osm_json.proofs.Grouped.{IsReadSo, ops_again}
use Rattle.osm_json.proofs.PlainData.{next_again}
use Rattle.osm_json.proofs.PlainParts.{IsFlatter, HasShortParts, tags_flatter, ops_flatter}
use Rattle.osm_json.proofs.Raws.{in_is}
use Rattle.osm_json.proofs.Walks.{walk_reads}

returned : {A : Type 0} (reading : Data → Option A) (d : Data) (n : ℕ) (x : A) (rest : List Token) → IsFlatter n d → n ≤ 127 → reading d ≡ Some x → next_as reading (tokens_of d ++ rest) ≡ Some (x, rest)
returned reading d n x rest flat le is =
    let low = flat.shallow in
    let fits : depth d ≤ 127 = omega arith in
    ap (read_as reading) (next_again d 127 rest flat.plain fits) ∙ ap (option_map (λ x. (x, rest))) is

pub tags_returned : (tags : List Tag) → KeysRise tags → (rest : List Token) → next_as tags_of (tokens_of (tags_data tags) ++ rest) ≡ Some (tags, rest)
tags_returned tags rise rest = returned tags_of (tags_data tags) 1 tags rest (tags_flatter tags rise) (omega arith) (tags_again tags)

scalar_flat : (d : Data) → IsPlainData d → depth d ≡ 0 → IsFlatter 0 d
scalar_flat d plain e = record { plain = plain; shallow = omega arith }

pub natural_returned : (n : ℕ) → n < 2 ^ 64 → (rest : List Token) → next_as natural_of (tokens_of (natural n) ++ rest) ≡ Some (n, rest)
natural_returned n small rest = returned natural_of (natural n) 0 n rest (scalar_flat (natural n) small refl) (omega arith) refl

pub flag_returned : (b : Bool) (rest : List Token) → next_as as_bool (tokens_of (boolean b) ++ rest) ≡ Some (b, rest)
flag_returned b rest = returned as_bool (boolean b) 0 b rest (scalar_flat (boolean b) tt refl) (omega arith) refl

pub text_returned : (text : List ℕ) (rest : List Token) → next_as as_str (tokens_of (string text) ++ rest) ≡ Some (text, rest)
text_returned text rest = returned as_str (string text) 0 text rest (scalar_flat (string text) tt refl) (omega arith) refl

pub kind_returned : (k : Kind) (rest : List Token) → next_as kind_of (tokens_of (kind k) ++ rest) ≡ Some (k, rest)
kind_returned k rest = returned kind_of (kind k) 0 k rest (scalar_flat (kind k) tt refl) (omega arith) (kind_again k)

pub ops_returned : (rs : List RawOp) (rest : List Token) → All HasShortParts rs → All IsReadSo rs → next_as ops_of (tokens_of (given_ops rs) ++ rest) ≡ Some (rs, rest)
ops_returned rs rest short so = returned ops_of (given_ops rs) 6 rs rest (ops_flatter rs short) (omega arith) (ap all_ops (ops_again rs so))

-- ---- what is drawn

pub drawn : {A : Type 0} (reading : Data → Option A) (x : Option A) (found : Option (Data × List Token)) (new : List Token) → Pulls reading x found new → read_as reading found ≡ option_map (λ x. (x, new)) x
drawn reading x found new h = ap (read_as reading) h.begins ∙ ap (option_map (λ x. (x, new))) h.reads

-- what was pulled and must be there
pub draws : {X A : Type 0} (view : X → A) (reading : Data → Option A) (read : Result (Option X) ReadFault) (found : Option (Data × List Token)) (new : List Token)
    → Pulled (λ x. option_map view x) reading read found new → Draws view (drawn_of read) (read_as reading found) new
draws view reading (Ok (Some x)) found new h = drawn reading (Some (view x)) found new h
draws view reading (Ok None) found new h = drawn reading None found new h
draws view reading (Err NotJson) found new h = ap (read_as reading) h
draws view reading (Err ReadFault.Memory) found new h = tt

value_reads : (d : Data) → outcome (walk_value (as_array d)) ≡ operations_in (list_of block_of d)
unfolding blocks_of
value_reads d = walk_reads (object (member (codes "osmChange") d no_members))

-- the operations of what was pulled
pub ops_drawn : (sight : Option Sight) (found : Option (Data × List Token)) (new : List Token) → Pulls (λ d. walk_value (as_array d)) sight found new → read_as ops_of found ≡ option_map (λ x. (x, new)) (all_ops (outcome sight))
ops_drawn sight found new h =
    ap (read_as ops_of) h.begins
    ∙ ap (λ r. option_map (λ x. (x, new)) (all_ops r)) (sym (value_reads h.source) ∙ ap outcome h.reads)

pub gives_drawn : (result : Result (Vec RawOp Global) BodyFault) (defined : Result (List RawOp) BodyFault) (found : Option (List RawOp × List Token)) (new : List Token) → found ≡ option_map (λ x. (x, new)) (all_ops defined) → Gives (λ v. v.items) result defined
    → Draws (λ v. v.items) result found new
gives_drawn (Ok v) defined found new e h = e ∙ ap (λ (r : Result (List RawOp) BodyFault). option_map (λ x. (x, new)) (all_ops r)) h
gives_drawn (Err BodyFault.Memory) defined found new e h = tt
gives_drawn (Err bodies.NotJson) defined found new e h = e ∙ ap (λ (r : Result (List RawOp) BodyFault). option_map (λ x. (x, new)) (all_ops r)) h
gives_drawn (Err (bodies.Shape op)) defined found new e h = e ∙ ap (λ (r : Result (List RawOp) BodyFault). option_map (λ x. (x, new)) (all_ops r)) h

-- what is pulled is raw
pub pulled_raw : (result : Result (Vec RawOp Global) BodyFault) (sight : Option Sight) (found : Option (Data × List Token)) (new : List Token) → Pulls (λ d. walk_value (as_array d)) sight found new → Gives (λ v. v.items) result (outcome sight) → IfOk result (λ v. length v.items < 2 ^ 32)
    → IfOk result (λ v. IsRaw v.items)
pulled_raw (Ok v) sight found new h gives few =
    record { few = few; each = in_is (list_of block_of h.source) v.items (sym (value_reads h.source) ∙ ap outcome h.reads ∙ gives) }
pulled_raw (Err fault) sight found new h gives few = tt
