-- Loops over the parts of a list: what one turn does to the whole.
use Rattle.std.proofs.Common.{◌≡◌, List, [], ◌∷◌, ◌++◌, map, reverse, sym, ap, ◌∙◌, append_assoc}
use Rattle.std.proofs.lemmas.List.{map-append, reverse-append, append-nil, reverse-reverse}
use Rattle.tree_numbers.specs.declared.numbers.Numbers.{Numbers}
use Rattle.tree_numbers.specs.Counting.{Counting, ◌>>=◌, pure}

-- each of some parts with its numbers, in order
abbrev pub each : {B : Type 0} → (B → Counting B) → List B → Counting (List B)
each count [] = pure []
each count (x ∷ xs) = do
  a ← count x
  b ← each count xs
  pure (a ∷ b)

-- a part with its numbers, and then those behind it
abbrev then : {B : Type 0} → (B → Counting B) → List B → B × Numbers → List B × Numbers
then count xs p = (p.0 ∷ (each count xs p.1).0, (each count xs p.1).1)

-- behind parts that are done
abbrev pub behind : {B : Type 0} → List B → List B × Numbers → List B × Numbers
behind done more = (done ++ more.0, more.1)

-- What is done, and then what is left, last to first, gives the whole.
pub record Left {A B : Type 0} (view : A → B) (count : B → Counting B) (all : List A) (first : Numbers) (done rest : List A) (n : Numbers) : Type 0 where
  pub gives : behind (map view done) (each count (map view (reverse rest)) n) ≡ each count (map view all) first

pub begins : {A B : Type 0} {view : A → B} {count : B → Counting B} {all done rest : List A} {first : Numbers}
    → done ≡ [] → rest ≡ reverse all → Left view count all first done rest first
begins {view = view} {count = count} {all = all} {first = first} ed er = record {
  gives = λ i. behind (map view (ed i)) (each count (map view ((ap reverse er ∙ reverse-reverse all) i)) first);
}

-- a turn takes one part off the end, and puts it behind those that are done
pub turns : {A B : Type 0} {view : A → B} {count : B → Counting B} {all done done2 rest rest2 : List A} {first n m : Numbers} {x y : A}
    → Left view count all first done rest n → rest ≡ rest2 ++ x ∷ [] → done2 ≡ done ++ y ∷ [] → count (view x) n ≡ (view y, m)
    → Left view count all first done2 rest2 m
turns {view = view} {count = count} {done = done} {rest2 = rest2} {n = n} {m = m} {x = x} {y = y} h er ed e =
    let ends : reverse (rest2 ++ x ∷ []) ≡ x ∷ reverse rest2 = reverse-append rest2 (x ∷ []) in
    record {
      gives =
          ap (λ zs. behind (map view zs) (each count (map view (reverse rest2)) m)) ed
          ∙ ap (λ zs. behind zs (each count (map view (reverse rest2)) m)) (map-append view done (y ∷ []))
          ∙ ap (λ zs. (zs, (each count (map view (reverse rest2)) m).1)) (append_assoc (map view done) (view y ∷ []) _)
          ∙ ap (λ p. behind (map view done) (then count (map view (reverse rest2)) p)) (sym e)
          ∙ ap (λ zs. behind (map view done) (each count (map view zs) n)) (sym ends)
          ∙ ap (λ zs. behind (map view done) (each count (map view (reverse zs)) n)) (sym er)
          ∙ h.gives;
    }

-- when none is left, all is done
pub stops : {A B : Type 0} {view : A → B} {count : B → Counting B} {all done rest : List A} {first n : Numbers}
    → Left view count all first done rest n → rest ≡ [] → each count (map view all) first ≡ (map view done, n)
stops {view = view} {count = count} {done = done} {n = n} h er =
    sym h.gives ∙ (λ i. behind (map view done) (each count (map view (reverse (er i))) n)) ∙ (λ i. (append-nil (map view done) i, n))
