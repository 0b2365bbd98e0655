-- Parts of lists.
use Rattle.std.proofs.Common.{◌≡◌, ◌+◌, ◌≤◌, ◌<◌, ℕ, List, ◌∷◌, length, get_or, drop, arith, ap, sym, ◌∙◌}
use Rattle.std.proofs.lemmas.List.{drop_more}

-- the element at a place and what is behind it
one : {T : Type 0} (xs : List T) (i j : ℕ) (a : T) → i < length xs → j ≡ i + 1 → a ≡ get_or xs i a → drop i xs ≡ a ∷ drop j xs
one xs i j a h next here = drop_more xs i a h ∙ ap (λ x. x ∷ drop (i + 1) xs) (sym here) ∙ ap (λ k. a ∷ drop k xs) (sym next)

-- the six elements at a place and what is behind them
pub six : {T : Type 0} (xs : List T) (i : ℕ) (a b c d e f : T) → i + 6 ≤ length xs → a ≡ get_or xs i a → b ≡ get_or xs (i + 1) b → c ≡ get_or xs (i + 2) c → d ≡ get_or xs (i + 3) d → e ≡ get_or xs (i + 4) e → f ≡ get_or xs (i + 5) f → drop i xs ≡ a ∷ b ∷ c ∷ d ∷ e ∷ f ∷ drop (i + 6) xs
six xs i a b c d e f h p q r s t u =
    one xs i (i + 1) a (omega arith) (omega arith) p
    ∙ ap (λ l. a ∷ l) (one xs (i + 1) (i + 2) b (omega arith) (omega arith) q)
    ∙ ap (λ l. a ∷ b ∷ l) (one xs (i + 2) (i + 3) c (omega arith) (omega arith) r)
    ∙ ap (λ l. a ∷ b ∷ c ∷ l) (one xs (i + 3) (i + 4) d (omega arith) (omega arith) s)
    ∙ ap (λ l. a ∷ b ∷ c ∷ d ∷ l) (one xs (i + 4) (i + 5) e (omega arith) (omega arith) t)
    ∙ ap (λ l. a ∷ b ∷ c ∷ d ∷ e ∷ l) (one xs (i + 5) (i + 6) f (omega arith) (omega arith) u)
