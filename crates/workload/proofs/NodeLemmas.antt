-- One node more.
use Rattle.std.proofs.Common.{◌≡◌, ℕ, zero, suc, ◌+◌, ◌-◌, ◌<◌, ◌≤◌, List, [], ◌++◌, refl, sym, ap, ◌∙◌, arith, append_assoc, append-nil}
use Rattle.workload.specs.Numbers.{next_number, number_after}
use Rattle.workload.specs.Upload.{node_text, nodes_text}

pub nodes_text-zero : (k number : ℕ) → nodes_text zero k number ≡ []
unfolding nodes_text
nodes_text-zero k number = refl

pub nodes_text-suc : (left k number : ℕ) → nodes_text (suc left) k number ≡ node_text k (next_number number) ++ nodes_text left (k + 1) (next_number number)
unfolding nodes_text
nodes_text-suc left k number = refl

number_after-zero : (number : ℕ) → number_after zero number ≡ number
unfolding number_after
number_after-zero number = refl

number_after-suc : (left number : ℕ) → number_after (suc left) number ≡ number_after left (next_number number)
unfolding number_after
number_after-suc left number = refl

one_less : (place : ℕ) → place < 10 → 10 - place ≡ suc (10 - (place + 1))
one_less place below = omega arith

-- the nodes from a place on: the one there, and the rest
nodes_from :
    (place number : ℕ) → place < 10
    → nodes_text (10 - place) (place + 1) number
    ≡ node_text (place + 1) (next_number number) ++ nodes_text (10 - (place + 1)) (place + 1 + 1) (next_number number)
nodes_from place number below =
    ap (λ left. nodes_text left (place + 1) number) (one_less place below)
    ∙ nodes_text-suc (10 - (place + 1)) (place + 1) number

-- a node is put
pub nodes_more :
    (place number next : ℕ) (old new whole : List ℕ)
    → place < 10
    → next ≡ next_number number
    → new ≡ old ++ node_text (place + 1) next
    → old ++ nodes_text (10 - place) (place + 1) number ≡ whole
    → new ++ nodes_text (10 - (place + 1)) (place + 1 + 1) next ≡ whole
nodes_more place number next old new whole below is_next put kept =
    ap (λ before. before ++ nodes_text (10 - (place + 1)) (place + 1 + 1) next) put
    ∙ append_assoc old (node_text (place + 1) next) (nodes_text (10 - (place + 1)) (place + 1 + 1) next)
    ∙ ap (λ n. old ++ (node_text (place + 1) n ++ nodes_text (10 - (place + 1)) (place + 1 + 1) n)) is_next
    ∙ ap (λ more. old ++ more) (sym (nodes_from place number below))
    ∙ kept

-- the last node is put
pub nodes_done :
    (place number : ℕ) (new whole : List ℕ)
    → 10 ≤ place
    → new ++ nodes_text (10 - place) (place + 1) number ≡ whole
    → new ≡ whole
nodes_done place number new whole done kept =
    let none : 10 - place ≡ 0 = omega arith in
    sym (append-nil new)
    ∙ ap (λ rest. new ++ rest) (sym (ap (λ left. nodes_text left (place + 1) number) none ∙ nodes_text-zero (place + 1) number))
    ∙ kept

pub number_more :
    (place number next whole : ℕ) → place < 10 → next ≡ next_number number
    → number_after (10 - place) number ≡ whole
    → number_after (10 - (place + 1)) next ≡ whole
number_more place number next whole below is_next kept =
    ap (λ n. number_after (10 - (place + 1)) n) is_next
    ∙ sym (ap (λ left. number_after left number) (one_less place below) ∙ number_after-suc (10 - (place + 1)) number)
    ∙ kept

pub number_done : (place number whole : ℕ) → 10 ≤ place → number_after (10 - place) number ≡ whole → number ≡ whole
number_done place number whole done kept =
    let none : 10 - place ≡ 0 = omega arith in
    sym (ap (λ left. number_after left number) none ∙ number_after-zero number) ∙ kept
