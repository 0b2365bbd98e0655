-- Marks while open modules are closed one after the other.
use Rattle.std.proofs.Common.{◌≡◌, ◌≢◌, ℕ, zero, suc, ◌+◌, ◌<◌, ◌≤◌, List, [], ◌∷◌, Bool, true, false, length, refl, ap, sym, subst, ◌∙◌, arith, inl, inr}
use Rattle.std.specs.Prelude.{Some, None, Option, option_map, map, slice_get, slice_set, ◌⊎◌, nat_le, nat_lt, ◌&&◌, if◌then◌else◌}
use Rattle.std.proofs.lemmas.Option.{slice_get-map, slice_get_within}
use Rattle.std.proofs.lemmas.Bool.{cases_eq}
use Rattle.std.proofs.lemmas.Bool.Decides.{nat_tests}
use Rattle.module_graph.specs.declared.search.Mark.{Mark}
use Rattle.module_graph.specs.declared.search.Mark.TheVariants.{New, Open, Closed}
use Rattle.module_graph.specs.Search.{close_mark}
use Rattle.module_graph.proofs.Lists.{slice_get-set_same, slice_get-set_other}
use Rattle.module_graph.proofs.Marks.{mapped-at}

-- a mark once the open modules from a place on and before another are closed
abbrev pub close_between : ℕ → ℕ → ℕ → Mark → Mark
close_between start end number New = New
close_between start end number (Closed own) = Closed own
close_between start end number (Open at next) = if nat_le start at && nat_lt at end then Closed number else Open at next

-- lists with the same item at each place are the same
pub same_items : {X : Type 0} (xs ys : List X) → ((j : ℕ) → slice_get xs j ≡ slice_get ys j) → xs ≡ ys
same_items [] [] same = refl
same_items [] (y ∷ ys) same = let first = same 0 in cc
same_items (x ∷ xs) [] same = let first = same 0 in cc
same_items (x ∷ xs) (y ∷ ys) same =
    let first : Some x ≡ Some y = same 0 in
    let rest : xs ≡ ys = same_items xs ys (λ j. same (suc j)) in
    let head : x ≡ y = cc in
    cc

-- marks that two rewritings treat alike
pub same_marks : (f g : Mark → Mark) (marks : List Mark) → ((x : ℕ) (mark : Mark) → slice_get marks x ≡ Some mark → f mark ≡ g mark) → map f marks ≡ map g marks
same_marks f g [] alike = refl
same_marks f g (mark ∷ marks) alike =
    let first : f mark ≡ g mark = alike 0 mark refl in
    let rest : map f marks ≡ map g marks = same_marks f g marks (λ x m e. alike (suc x) m e) in
    cc

pub map_same : (marks : List Mark) → map (λ m. m) marks ≡ marks
map_same [] = refl
map_same (mark ∷ marks) = let rest : map (λ m. m) marks ≡ marks = map_same marks in cc

-- what an open module becomes
close_between-at : (start end number at next : ℕ) → start ≤ at → at < end → close_between start end number (Open at next) ≡ Closed number
close_between-at start end number at next from before =
    let test : (nat_le start at && nat_lt at end) ≡ true = grind (arith, nat_tests) in
    ap (λ (b : Bool). if b then Closed number else Open at next) test

close_between-past : (start end number at next : ℕ) → (start ≤ at → end ≤ at) → close_between start end number (Open at next) ≡ Open at next
close_between-past start end number at next past =
    let test : (nat_le start at && nat_lt at end) ≡ false = grind (arith, nat_tests, past) in
    ap (λ (b : Bool). if b then Closed number else Open at next) test

-- before the first
close_between-none : (start number : ℕ) (mark : Mark) → close_between start start number mark ≡ mark
close_between-none start number New = refl
close_between-none start number (Closed n) = refl
close_between-none start number (Open at next) = close_between-past start start number at next (λ le. le)

pub closed-none : (start number : ℕ) (marks : List Mark) → map (close_between start start number) marks ≡ marks
closed-none start number marks = same_marks (close_between start start number) (λ m. m) marks (λ x mark e. close_between-none start number mark) ∙ map_same marks

-- one more open module is closed
pub closed-more : (start i number : ℕ) (marks : List Mark) (opened : List ℕ) → ((z p n : ℕ) → slice_get marks z ≡ Some (Open p n) → slice_get opened p ≡ Some z) → (x next : ℕ) → start ≤ i → slice_get marks x ≡ Some (Open i next) → slice_set (map (close_between start i number) marks) x (Closed number) ≡ map (close_between start (i + 1) number) marks
closed-more start i number marks opened there x next from here =
    same_items (slice_set (map (close_between start i number) marks) x (Closed number)) (map (close_between start (i + 1) number) marks) (λ j. at j (cases_eq j x))
  where
    alike : (j : ℕ) (mark : Mark) → (j ≡ x → ⊥) → slice_get marks j ≡ Some mark → close_between start i number mark ≡ close_between start (i + 1) number mark
    alike j New differ e = refl
    alike j (Closed n) differ e = refl
    alike j (Open a n) differ e =
        let apart : a ≢ i = (λ same. differ (
        let at_a : slice_get opened a ≡ Some j = there j a n e in
        let at_i : slice_get opened i ≡ Some x = there x i next here in
        cc)) in
        let tests : nat_lt a i ≡ nat_lt a (i + 1) = grind (arith, nat_tests) in
        ap (λ (b : Bool). if nat_le start a && b then Closed number else Open a n) tests

    other : (j : ℕ) (found : Option Mark) → (j ≡ x → ⊥) → slice_get marks j ≡ found → slice_get (map (close_between start i number) marks) j ≡ slice_get (map (close_between start (i + 1) number) marks) j
    other j None differ e =
        slice_get-map (close_between start i number) marks j ∙ (ap (option_map (close_between start i number)) e ∙ sym (slice_get-map (close_between start (i + 1) number) marks j ∙ ap (option_map (close_between start (i + 1) number)) e))
    other j (Some mark) differ e =
        mapped-at (close_between start i number) marks j mark e ∙ (ap Some (alike j mark differ e) ∙ sym (mapped-at (close_between start (i + 1) number) marks j mark e))

    this : slice_get (slice_set (map (close_between start i number) marks) x (Closed number)) x ≡ slice_get (map (close_between start (i + 1) number) marks) x
    this =
        slice_get-set_same (map (close_between start i number) marks) x (Closed number) (close_between start i number (Open i next)) (mapped-at (close_between start i number) marks x (Open i next) here)
        ∙ sym (mapped-at (close_between start (i + 1) number) marks x (Open i next) here ∙ ap Some (close_between-at start (i + 1) number i next from (omega arith)))

    at : (j : ℕ) → (j ≡ x) ⊎ (j ≡ x → ⊥) → slice_get (slice_set (map (close_between start i number) marks) x (Closed number)) j ≡ slice_get (map (close_between start (i + 1) number) marks) j
    at j (inl same) = subst (λ (k : ℕ). slice_get (slice_set (map (close_between start i number) marks) x (Closed number)) k ≡ slice_get (map (close_between start (i + 1) number) marks) k) (sym same) this
    at j (inr differ) = slice_get-set_other (map (close_between start i number) marks) x (Closed number) j differ ∙ other j (slice_get marks j) differ refl

-- all open modules from the place on are closed
pub closed-all : (start number : ℕ) (marks : List Mark) (opened : List ℕ) → ((z p n : ℕ) → slice_get marks z ≡ Some (Open p n) → slice_get opened p ≡ Some z) → map (close_between start (length opened) number) marks ≡ map (close_mark start number) marks
closed-all start number marks opened there = same_marks (close_between start (length opened) number) (close_mark start number) marks alike
  where
    alike : (x : ℕ) (mark : Mark) → slice_get marks x ≡ Some mark → close_between start (length opened) number mark ≡ close_mark start number mark
    alike x New e = refl
    alike x (Closed n) e = refl
    alike x (Open a n) e =
        let within : a < length opened = slice_get_within opened a x (there x a n e) in
        let tests : (nat_le start a && nat_lt a (length opened)) ≡ nat_le start a = grind (arith, nat_tests) in
        ap (λ (b : Bool). if b then Closed number else Open a n) tests
