-- What a map has with another type for one local.
use Rattle.std.proofs.Common.{◌≡◌, ◌≢◌, ℕ, zero, suc, ◌-◌, ◌/◌, ◌%◌, List, refl, sym, ap, ◌∙◌, arith}
use Rattle.std.specs.Prelude.{Result, Ok, Err, IfOk, Bool, true, false, ◌==◌, IsTrue, if◌then◌else◌}
use Rattle.std.proofs.lemmas.Bool.Decides.{nat_tests}
use Rattle.type_arena.specs.Store.{has}
use Rattle.type_arena.specs.Term.{Term}
use Rattle.type_arena.specs.declared.node.TypeRef.{TypeRef}
use Rattle.local_types.specs.Entries.{arenas_of, type_of, entry_of, with_entry, IsMap}
use Rattle.local_types.specs.Growing.{Grows}
use Rattle.local_types.specs.Maps.{is_even, by_number}
use Rattle.local_types.specs.declared.node.LocalMap.{LocalMap}
use Rattle.local_types.specs.declared.node.Parts.{Parts}
use Rattle.local_types.specs.declared.types.LocalTypes.{LocalTypes}
use Rattle.local_types.proofs.MapFacts.{by_number-same}
use Rattle.local_types.proofs.GrowFacts.{entry_stays}

same_test : (a b c d : ℕ) → (a ≡ b → c ≡ d) → (c ≡ d → a ≡ b) → (a == b) ≡ (c == d)
same_test a b c d there back = grind (arith, nat_tests)

false_test : (a b : ℕ) → a ≢ b → (a == b) ≡ false
false_test a b ne = grind (arith, nat_tests)

even_is : (m : ℕ) → is_even m ≡ true → m % 2 ≡ 0
even_is m e = grind (arith, nat_tests)

odd_is : (m : ℕ) → is_even m ≡ false → m % 2 ≢ 0
odd_is m e = grind (arith, nat_tests)

here_changed : (x y : Term) (odd even : ℕ → Term) (n : ℕ) → by_number x odd even n ≡ with_entry 0 x (by_number y odd even) n
here_changed x y odd even zero = refl
here_changed x y odd even (suc m) = ap (λ (b : Bool). if b then x else by_number y odd even (suc m)) (sym (false_test (suc m) 0 (λ e. omega arith)))

odd_changed : (x t : Term) (odd even : ℕ → Term) (local n : ℕ) → local ≢ 0 → (local - 1) % 2 ≡ 0 → by_number x (with_entry ((local - 1) / 2) t odd) even n ≡ with_entry local t (by_number x odd even) n
odd_changed x t odd even local zero some side = ap (λ (b : Bool). if b then t else x) (sym (false_test 0 local (λ e. some (sym e))))
odd_changed x t odd even local (suc m) some side = go (is_even m) refl
  where
    go : (b : Bool) → is_even m ≡ b
        → ◌≡◌ {A = Term} (if b then with_entry ((local - 1) / 2) t odd (m / 2) else even (m / 2)) (if suc m == local then t else (if b then odd (m / 2) else even (m / 2)))
    go true e =
        let z : m % 2 ≡ 0 = even_is m e in
        ap (λ (b : Bool). if b then t else odd (m / 2)) (same_test (m / 2) ((local - 1) / 2) (suc m) local (λ h. omega arith) (λ h. omega arith))
    go false e =
        let z : m % 2 ≢ 0 = odd_is m e in
        ap (λ (b : Bool). if b then t else even (m / 2)) (sym (false_test (suc m) local (λ h. omega arith)))

even_changed : (x t : Term) (odd even : ℕ → Term) (local n : ℕ) → local ≢ 0 → (local - 1) % 2 ≢ 0 → by_number x odd (with_entry ((local - 1) / 2) t even) n ≡ with_entry local t (by_number x odd even) n
even_changed x t odd even local zero some side = ap (λ (b : Bool). if b then t else x) (sym (false_test 0 local (λ e. some (sym e))))
even_changed x t odd even local (suc m) some side = go (is_even m) refl
  where
    go : (b : Bool) → is_even m ≡ b
        → ◌≡◌ {A = Term} (if b then odd (m / 2) else with_entry ((local - 1) / 2) t even (m / 2)) (if suc m == local then t else (if b then odd (m / 2) else even (m / 2)))
    go true e =
        let z : m % 2 ≡ 0 = even_is m e in
        ap (λ (b : Bool). if b then t else odd (m / 2)) (sym (false_test (suc m) local (λ h. omega arith)))
    go false e =
        let z : m % 2 ≢ 0 = odd_is m e in
        ap (λ (b : Bool). if b then t else even (m / 2)) (same_test (m / 2) ((local - 1) / 2) (suc m) local (λ h. omega arith) (λ h. omega arith))

-- what the parts of a map have
abbrev pub HasParts : LocalTypes → LocalMap → Parts → Type 0
HasParts types map parts = (n : ℕ) → entry_of types map n ≡ by_number (type_of types parts.here) (entry_of types parts.odd) (entry_of types parts.even) n

pub put_here : (a b : LocalTypes) (map new : LocalMap) (parts : Parts) (at : TypeRef) → HasParts a map parts
    → ((n : ℕ) → entry_of b new n ≡ by_number (type_of a at) (entry_of a parts.odd) (entry_of a parts.even) n) → (n : ℕ) → entry_of b new n ≡ with_entry 0 (type_of a at) (entry_of a map) n
put_here a b map new parts at old entries n =
    entries n
    ∙ here_changed (type_of a at) (type_of a parts.here) (entry_of a parts.odd) (entry_of a parts.even) n
    ∙ ap (λ (e : Term). if n == 0 then type_of a at else e) (sym (old n))

put_odd : (a b c : LocalTypes) (given : List TypeRef) (map odd new : LocalMap) (parts : Parts) (local : ℕ) (at : TypeRef) → Grows a b given → HasParts a map parts
    → IsTrue (has (arenas_of a) parts.here) → IsMap a parts.even
    → ((n : ℕ) → entry_of b odd n ≡ with_entry ((local - 1) / 2) (type_of a at) (entry_of a parts.odd) n)
    → ((n : ℕ) → entry_of c new n ≡ by_number (type_of b parts.here) (entry_of b odd) (entry_of b parts.even) n)
    → local ≢ 0 → (local - 1) % 2 ≡ 0 → (n : ℕ) → entry_of c new n ≡ with_entry local (type_of a at) (entry_of a map) n
put_odd a b c given map odd new parts local at grows old here even below entries some side n =
    entries n
    ∙ by_number-same (type_of b parts.here) (type_of a parts.here) (entry_of b odd) (entry_of b parts.even) (with_entry ((local - 1) / 2) (type_of a at) (entry_of a parts.odd)) (entry_of a parts.even) n
    (grows.kept parts.here here) (λ m l. below m) (λ m l. entry_stays a b given grows parts.even even m)
    ∙ odd_changed (type_of a parts.here) (type_of a at) (entry_of a parts.odd) (entry_of a parts.even) local n some side
    ∙ ap (λ (e : Term). if n == local then type_of a at else e) (sym (old n))

put_even : (a b c : LocalTypes) (given : List TypeRef) (map even new : LocalMap) (parts : Parts) (local : ℕ) (at : TypeRef) → Grows a b given → HasParts a map parts
    → IsTrue (has (arenas_of a) parts.here) → IsMap a parts.odd
    → ((n : ℕ) → entry_of b even n ≡ with_entry ((local - 1) / 2) (type_of a at) (entry_of a parts.even) n)
    → ((n : ℕ) → entry_of c new n ≡ by_number (type_of b parts.here) (entry_of b parts.odd) (entry_of b even) n)
    → local ≢ 0 → (local - 1) % 2 ≢ 0 → (n : ℕ) → entry_of c new n ≡ with_entry local (type_of a at) (entry_of a map) n
put_even a b c given map even new parts local at grows old here odd below entries some side n =
    entries n
    ∙ by_number-same (type_of b parts.here) (type_of a parts.here) (entry_of b parts.odd) (entry_of b even) (entry_of a parts.odd) (with_entry ((local - 1) / 2) (type_of a at) (entry_of a parts.even)) n
    (grows.kept parts.here here) (λ m l. entry_stays a b given grows parts.odd odd m) (λ m l. below m)
    ∙ even_changed (type_of a parts.here) (type_of a at) (entry_of a parts.odd) (entry_of a parts.even) local n some side
    ∙ ap (λ (e : Term). if n == local then type_of a at else e) (sym (old n))

-- the same of what a call gives
pub put_odd_ok : {E : Type 0} (r : Result LocalMap E) (a b c : LocalTypes) (given : List TypeRef) (map odd : LocalMap) (parts : Parts) (local : ℕ) (at : TypeRef) → Grows a b given → HasParts a map parts
    → IsTrue (has (arenas_of a) parts.here) → IsMap a parts.even
    → ((n : ℕ) → entry_of b odd n ≡ with_entry ((local - 1) / 2) (type_of a at) (entry_of a parts.odd) n)
    → IfOk r (λ new. (n : ℕ) → entry_of c new n ≡ by_number (type_of b parts.here) (entry_of b odd) (entry_of b parts.even) n)
    → local ≢ 0 → (local - 1) % 2 ≡ 0 → IfOk r (λ new. (n : ℕ) → entry_of c new n ≡ with_entry local (type_of a at) (entry_of a map) n)
put_odd_ok (Ok new) a b c given map odd parts local at grows old here even below entries some side = put_odd a b c given map odd new parts local at grows old here even below entries some side
put_odd_ok (Err e) a b c given map odd parts local at grows old here even below entries some side = tt

pub put_even_ok : {E : Type 0} (r : Result LocalMap E) (a b c : LocalTypes) (given : List TypeRef) (map even : LocalMap) (parts : Parts) (local : ℕ) (at : TypeRef) → Grows a b given → HasParts a map parts
    → IsTrue (has (arenas_of a) parts.here) → IsMap a parts.odd
    → ((n : ℕ) → entry_of b even n ≡ with_entry ((local - 1) / 2) (type_of a at) (entry_of a parts.even) n)
    → IfOk r (λ new. (n : ℕ) → entry_of c new n ≡ by_number (type_of b parts.here) (entry_of b parts.odd) (entry_of b even) n)
    → local ≢ 0 → (local - 1) % 2 ≢ 0 → IfOk r (λ new. (n : ℕ) → entry_of c new n ≡ with_entry local (type_of a at) (entry_of a map) n)
put_even_ok (Ok new) a b c given map even parts local at grows old here odd below entries some side = put_even a b c given map even new parts local at grows old here odd below entries some side
put_even_ok (Err e) a b c given map even parts local at grows old here odd below entries some side = tt
