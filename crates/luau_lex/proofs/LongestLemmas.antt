-- The longest run of bytes of a class, and the order of tokens.
use Rattle.std.proofs.Common.{◌≡◌, ℕ, zero, suc, ◌+◌, ◌<◌, ◌≤◌, Bool, true, false, ◌&&◌, nat_lt, cond, List, [], ◌∷◌, length, take, get_or, slice_index, refl, ap, ◌∙◌, arith, lt-ltb, length-take-le}
use Rattle.std.specs.List.{prefix_len, list_all}
use Rattle.std.proofs.lemmas.List.Sums.{prefix_len-le-length}
use Rattle.luau_lex.specs.Bytes.{is_blank, is_name_start, is_name_byte}
use Rattle.luau_lex.specs.Forms.{is_blanks}
use Rattle.luau_lex.specs.Names.{is_name}

-- The longest front of a text that is of a form has n bytes.
pub record Longest (is_of : List ℕ → Bool) (text : List ℕ) (n : ℕ) : Type 0 where
  pub within : n ≤ length text
  pub whole : is_of (take n text) ≡ true
  pub none_longer : (m : ℕ) → n < m → m ≤ length text → is_of (take m text) ≡ false

run_all_at : (p : ℕ → Bool) (x : ℕ) (xs : List ℕ) (b : Bool) → p x ≡ b → list_all p (take (prefix_len p xs) xs) ≡ true → list_all p (take (cond b (1 + prefix_len p xs) 0) (x ∷ xs)) ≡ true
run_all_at p x xs true h more =
    let next : 1 + prefix_len p xs ≡ suc (prefix_len p xs) = omega arith in
    ap (λ n. list_all p (take n (x ∷ xs))) next ∙ ap (λ t. t && list_all p (take (prefix_len p xs) xs)) h ∙ more
run_all_at p x xs false h more = refl

-- each byte of a run is of the class
pub run_all : (p : ℕ → Bool) (xs : List ℕ) → list_all p (take (prefix_len p xs) xs) ≡ true
run_all p [] = refl
run_all p (x ∷ xs) = run_all_at p x xs (p x) refl (run_all p xs)

run_more_at : (p : ℕ → Bool) (x : ℕ) (xs : List ℕ) (m : ℕ) (b : Bool) → p x ≡ b → (prefix_len p xs < m → list_all p (take m xs) ≡ false) → cond b (1 + prefix_len p xs) 0 < suc m → p x && list_all p (take m xs) ≡ false
run_more_at p x xs m true h more longer = ap (λ t. t && list_all p (take m xs)) h ∙ more (omega (arith, longer))
run_more_at p x xs m false h more longer = ap (λ t. t && list_all p (take m xs)) h

-- no longer front has each byte of the class
pub run_more : (p : ℕ → Bool) (xs : List ℕ) (m : ℕ) → prefix_len p xs < m → m ≤ length xs → list_all p (take m xs) ≡ false
run_more p [] m longer fits = absurd (omega arith)
run_more p (x ∷ xs) zero longer fits = absurd (omega arith)
run_more p (x ∷ xs) (suc m) longer fits = run_more_at p x xs m (p x) refl (λ h. run_more p xs m h (omega arith)) longer

-- a test of a class of bytes at the front says that the run is not empty
pub run_some : (p : ℕ → Bool) (xs : List ℕ) → p 0 ≡ false → p (get_or xs 0 0) ≡ true → 0 < prefix_len p xs
run_some p [] none h = cc
run_some p (x ∷ xs) none h = let e = ap (λ b. cond b (1 + prefix_len p xs) 0) h in omega (arith, e)

and_right : (a b : Bool) → a ≡ true → b ≡ true → a && b ≡ true
and_right a b h g = ap (λ t. t && b) h ∙ g

and_false : (a b : Bool) → b ≡ false → a && b ≡ false
and_false true b h = h
and_false false b h = refl

first_of_front : (n : ℕ) (xs : List ℕ) → 0 < n → get_or (take n xs) 0 0 ≡ get_or xs 0 0
first_of_front zero xs h = absurd (omega arith)
first_of_front (suc n) [] h = refl
first_of_front (suc n) (x ∷ xs) h = refl

-- blanks go as far as they can
pub blanks_longest : (text : List ℕ) → is_blank (slice_index text 0) ≡ true → Longest is_blanks text (prefix_len is_blank text)
blanks_longest text h =
    let n = prefix_len is_blank text in
    let some = run_some is_blank text refl h in
    let fits = prefix_len-le-length is_blank text in
    record {
      within = fits;
      whole = and_right (nat_lt 0 (length (take n text))) (list_all is_blank (take n text)) (lt-ltb 0 (length (take n text)) (omega (arith, length-take-le n text fits))) (run_all is_blank text);
      none_longer = λ m longer most. and_false (nat_lt 0 (length (take m text))) (list_all is_blank (take m text)) (run_more is_blank text m longer most);
    }

-- a byte that a name begins with is one that it goes on with
pub start_goes_on : (b : ℕ) → is_name_start b ≡ true → is_name_byte b ≡ true
start_goes_on b h = grind arith

-- a name goes as far as it can
pub name_longest : (text : List ℕ) → is_name_start (slice_index text 0) ≡ true → Longest is_name text (prefix_len is_name_byte text)
name_longest text h =
    let n = prefix_len is_name_byte text in
    let some = run_some is_name_byte text refl (start_goes_on (slice_index text 0) h) in
    record {
      within = prefix_len-le-length is_name_byte text;
      whole = and_right (is_name_start (slice_index (take n text) 0)) (list_all is_name_byte (take n text)) (ap is_name_start (first_of_front n text some) ∙ h) (run_all is_name_byte text);
      none_longer = λ m longer most. and_false (is_name_start (slice_index (take m text) 0)) (list_all is_name_byte (take m text)) (run_more is_name_byte text m longer most);
    }
