-- How places change from one byte to the next.
use Rattle.std.proofs.Common.{◌≡◌, ℕ, ◌+◌, ◌-◌, ◌<◌, ◌≤◌, ◌==◌, Bool, true, false, not, List, length, take, get_or, refl, arith, ap, if◌then◌else◌}
use Rattle.std.specs.List.{suffix_len}
use Rattle.std.proofs.lemmas.List.{length-take}
use Rattle.std.proofs.lemmas.List.Sums.{count_by_more_yes, count_by_more_no, suffix_len-take_yes, suffix_len-take_no, count_by-le-length, suffix_len-le-length}
use Rattle.luau_tree.specs.Position.{line_of, column_of, pos_at}
use Rattle.luau_tree.specs.Steps.{place_after}

-- no line past the number of bytes
pub line_of-le : (text : List ℕ) (k : ℕ) → line_of text k ≤ k + 1
line_of-le text k = omega (arith, count_by-le-length (λ b. b == 10) (take k text), length-take k text)

-- no column past the number of bytes
pub column_of-le : (text : List ℕ) (k : ℕ) → column_of text k ≤ k + 1
column_of-le text k = omega (arith, suffix_len-le-length (λ b. not (b == 10)) (take k text), length-take k text)

-- one more byte that is no line feed at the end
suffix-yes : (p : ℕ → Bool) (text : List ℕ) (k j : ℕ) → k < length text → j ≡ k + 1 - 1 → p (get_or text k 0) ≡ true → k ≡ j → suffix_len p (take (k + 1) text) ≡ suffix_len p (take k text) + 1
suffix-yes p text k j h prev e same = grind (arith, suffix_len-take_yes p text (k + 1) 0)

-- a line feed at the end
suffix-no : (p : ℕ → Bool) (text : List ℕ) (k j : ℕ) → k < length text → j ≡ k + 1 - 1 → p (get_or text k 0) ≡ false → k ≡ j → suffix_len p (take (k + 1) text) ≡ 0
suffix-no p text k j h prev e same = grind (arith, suffix_len-take_no p text (k + 1) 0)

-- the place after the byte at k is that of the next offset
pub place_after-pos_at : (text : List ℕ) (k : ℕ) → k < length text → place_after (pos_at text k) (get_or text k 0) ≡ pos_at text (k + 1)
place_after-pos_at text k h =
    let step : (feed : Bool) → (get_or text k 0 == 10) ≡ feed → (if feed then record { line = line_of text k + 1; column = 1 } else record { line = line_of text k; column = column_of text k + 1 }) ≡ pos_at text (k + 1) =
    elim [
      | true ↦ λ e.
          let lines : line_of text (k + 1) ≡ line_of text k + 1 = ap (λ n. n + 1) (count_by_more_yes (λ b. b == 10) text k 0 h e) in
          let columns : column_of text (k + 1) ≡ 1 = ap (λ n. n + 1) (suffix-no (λ b. not (b == 10)) text k k h (omega arith) (ap not e) refl) in
          rw (lines, columns)
      | false ↦ λ e.
          let lines : line_of text (k + 1) ≡ line_of text k = ap (λ n. n + 1) (count_by_more_no (λ b. b == 10) text k 0 h e) in
          let columns : column_of text (k + 1) ≡ column_of text k + 1 = ap (λ n. n + 1) (suffix-yes (λ b. not (b == 10)) text k k h (omega arith) (ap not e) refl) in
          rw (lines, columns)
    ]
    in step (get_or text k 0 == 10) refl

-- what the pass over a text takes from here
pub ruleset places = (place_after-pos_at, line_of-le)
