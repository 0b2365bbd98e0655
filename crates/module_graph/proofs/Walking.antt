-- Walks, names that are put together, and files that are found by their paths.
use Rattle.std.proofs.Common.{◌≡◌, ◌≢◌, ℕ, zero, suc, ◌+◌, ◌-◌, ◌<◌, ◌≤◌, Bool, true, false, List, [], ◌∷◌, ◌++◌, length, take, drop, refl, ap, sym, subst, ◌∙◌, arith, inl, inr, append_assoc}
use Rattle.std.proofs.Common.{get_or, Bor, add-one}
use Rattle.std.proofs.lemmas.Option.{slice_get-map, slice_get-get_or}
use Rattle.std.specs.Prelude.{Option, Some, None, slice_get, map, option_map, ◌⊎◌}
use Rattle.std.specs.Option.{option_and_then}
use Rattle.std.specs.List.{join_with_byte}
use Rattle.module_graph.specs.Names.{step, walk}

-- a walk goes on with the next part
pub walk-next : (here parts : List (List ℕ)) (i : ℕ) (part : List ℕ) → slice_get parts i ≡ Some part → walk here (drop i parts) ≡ option_and_then (λ next. walk next (drop (suc i) parts)) (step here part)
walk-next here [] i part e = cc
walk-next here (p ∷ parts) zero part e = let same : p ≡ part = cc in ap (λ (q : List ℕ). option_and_then (λ next. walk next parts) (step here q)) same
walk-next here (p ∷ parts) (suc i) part e = walk-next here parts i part e

-- the first part stands alone
pub join-first : (parts : List (List ℕ)) (part : List ℕ) → slice_get parts 0 ≡ Some part → join_with_byte 47 (take 1 parts) ≡ part
join-first [] part e = cc
join-first (p ∷ parts) part e = let same : p ≡ part = cc in same

-- each later one stands behind a slash
pub join-later : (parts : List (List ℕ)) (i : ℕ) (part : List ℕ) → slice_get parts (suc i) ≡ Some part → join_with_byte 47 (take (suc (suc i)) parts) ≡ join_with_byte 47 (take (suc i) parts) ++ (47 ∷ part)
join-later [] i part e = cc
join-later (a ∷ []) i part e = cc
join-later (a ∷ b ∷ parts) zero part e = let same : b ≡ part = cc in ap (λ (q : List ℕ). a ++ (47 ∷ q)) same
join-later (a ∷ b ∷ parts) (suc i) part e =
    let rest : join_with_byte 47 (take (suc (suc i)) (b ∷ parts)) ≡ join_with_byte 47 (take (suc i) (b ∷ parts)) ++ (47 ∷ part) = join-later (b ∷ parts) i part e in
    ap (λ (q : List ℕ). a ++ (47 ∷ q)) rest ∙ sym (append_assoc a (47 ∷ join_with_byte 47 (take (suc i) (b ∷ parts))) (47 ∷ part))

-- a part that is read
pub read-part : (parts : List (Bor (List ℕ))) (i : ℕ) (d : Bor (List ℕ)) → i < length parts → slice_get (map (λ p. p.now) parts) i ≡ Some (get_or parts i d).now
read-part parts i d lt = slice_get-map (λ p. p.now) parts i ∙ ap (option_map (λ (p : Bor (List ℕ)). p.now)) (slice_get-get_or parts i d lt)

-- a walk at its next part, by what the step there gives
pub walk-some : (here next parts : List (List ℕ)) (i : ℕ) (part : List ℕ) → slice_get parts i ≡ Some part → step here part ≡ Some next → walk next (drop (i + 1) parts) ≡ walk here (drop i parts)
walk-some here next parts i part e goes =
    rw (add-one, walk-next here parts i part e, goes) refl

pub walk-none : (here parts : List (List ℕ)) (i : ℕ) (part : List ℕ) → slice_get parts i ≡ Some part → step here part ≡ None → walk here (drop i parts) ≡ None
walk-none here parts i part e goes = walk-next here parts i part e ∙ ap (option_and_then (λ next. walk next (drop (suc i) parts))) goes

-- one more part of a name
pub join-more : (parts : List (List ℕ)) (i : ℕ) (part before : List ℕ) → slice_get parts i ≡ Some part → ((0 < i) × (before ≡ join_with_byte 47 (take i parts) ++ 47 ∷ [])) ⊎ ((i ≡ 0) × (before ≡ join_with_byte 47 (take i parts))) → before ++ part ≡ join_with_byte 47 (take (i + 1) parts)
join-more parts zero part before e (inl h) = absurd (omega arith)
join-more parts zero part before e (inr h) = let empty : before ≡ [] = h.1 in ap (λ (l : List ℕ). l ++ part) empty ∙ sym (join-first parts part e)
join-more parts (suc i) part before e (inr h) = absurd (omega arith)
join-more parts (suc i) part before e (inl h) =
    ap (λ (l : List ℕ). l ++ part) h.1 ∙ (append_assoc (join_with_byte 47 (take (suc i) parts)) (47 ∷ []) part ∙ (sym (join-later parts i part e) ∙ ap (λ k. join_with_byte 47 (take k parts)) (sym (add-one (suc i)))))
