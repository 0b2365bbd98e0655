-- What goes on behind its end is of no form.
use Rattle.std.proofs.Common.{◌≡◌, ◌≢◌, ℕ, ◌+◌, ◌<◌, true, List, [], ◌∷◌, ◌++◌, length, take, drop, slice_index, flat_map, codes, Some, None, inl, inr, sym, refl, ap, subst, ◌∙◌, arith, append_assoc, append-nil, length-append}
use Rattle.std.proofs.Math.Seq.{take-append_seam, get_or-append_seam}
use Rattle.luau_lex.specs.declared.token.Kind.TheVariants.{Quoted, Long, Whole}
use Rattle.luau_lex.specs.Bytes.{backslash, double_quote, single_quote, backquote}
use Rattle.luau_lex.specs.Computed.Brackets.{level, closes, closing_place}
use Rattle.luau_lex.specs.Computed.Strings.{element, ends_inside, inside_len, malformed_at}
use Rattle.luau_lex.specs.Spellings.{written}
use Rattle.luau_lex.specs.Forms.{IsMarked, IsLong, HasForm, IsLineComment, IsLongComment}
use Rattle.luau_lex.proofs.InsideLemmas.{inside_again}
use Rattle.luau_lex.proofs.MeaningLemmas.{widen_all, narrow_all, malformed_spelled, well_formed_none}
use Rattle.luau_lex.proofs.LongLemmas.{long_again}

-- what stands between marks ends at the first byte that ends its inside, whatever follows
pub marked_again : (mark first last : ℕ) (bytes more : List ℕ) → mark ≢ backslash → ends_inside mark last ≡ true → IsMarked mark first last bytes → (slice_index (bytes ++ more) 0 ≡ first) × (inside_len mark (drop 1 (bytes ++ more)) + 2 ≡ length bytes) × (slice_index (drop 1 (bytes ++ more)) (inside_len mark (drop 1 (bytes ++ more))) ≡ last) × (malformed_at (take (inside_len mark (drop 1 (bytes ++ more))) (drop 1 (bytes ++ more))) ≡ None)
marked_again mark first last bytes more other ends is =
    let inside = flat_map written is.0 in
    let behind = last ∷ more in
    let rest : drop 1 (bytes ++ more) ≡ inside ++ behind = ap (λ l. drop 1 (l ++ more)) is.1 ∙ append_assoc inside (last ∷ []) more in
    let wide = widen_all mark is.0 last more is.3 is.2 in
    let width : inside_len mark (drop 1 (bytes ++ more)) ≡ length inside = ap (inside_len mark) rest ∙ inside_again mark is.0 behind other wide (inr ends) in (
      ap (λ l. slice_index (l ++ more) 0) is.1,
      omega (arith, width, ap length is.1, length-append inside (last ∷ [])),
      ap (slice_index (drop 1 (bytes ++ more))) width ∙ ap (λ l. slice_index l (length inside)) rest ∙ get_or-append_seam inside last more 0,
      ap (λ n. malformed_at (take n (drop 1 (bytes ++ more)))) width ∙ ap (λ l. malformed_at (take (length inside) l)) rest
          ∙ ap malformed_at (take-append_seam inside behind)
          ∙ malformed_spelled mark is.0 (narrow_all mark is.0 [] behind wide) ∙ well_formed_none is.0 is.3,
    )

pub two_strings : HasForm Quoted (codes "\"a\" \"b\"") → ⊥
unfolding ends_inside element
two_strings (inl is) = let h = marked_again double_quote double_quote double_quote (codes "\"a\" \"b\"") [] (λ same. omega (arith, same)) refl is in omega (arith, h.1)
two_strings (inr is) = let h = marked_again single_quote single_quote single_quote (codes "\"a\" \"b\"") [] (λ same. omega (arith, same)) refl is in omega (arith, h.0)

pub two_parts : HasForm Whole (codes "`a{b}c`") → ⊥
unfolding ends_inside element
two_parts is = let h = marked_again backquote backquote backquote (codes "`a{b}c`") [] (λ same. omega (arith, same)) refl is in omega (arith, h.1)

-- a long bracket whose inside closes at this place holds no more
longer : (signs : ℕ) (body bytes : List ℕ) (level_is place : ℕ) → level bytes ≡ Some level_is → closing_place level_is (drop (level_is + 2) bytes) ≡ Some place → (level_is + 2) + (place + (level_is + 2)) < length bytes → IsLong signs body bytes → ⊥
longer signs body bytes level_is place opens closes_at more is =
    let h = long_again signs body bytes [] is in
    let opens' : level bytes ≡ Some signs = ap level (sym (append-nil bytes)) ∙ h.0 in
    let same : signs ≡ level_is = cc in
    let there : closing_place level_is (drop (level_is + 2) bytes) ≡ Some (length body) =
    subst (λ k. closing_place k (drop (k + 2) bytes) ≡ Some (length body)) same (ap (λ l. closing_place signs (drop (signs + 2) l)) (sym (append-nil bytes)) ∙ h.1) in
    let width : place ≡ length body = cc in
    omega (arith, h.2, same, width, more)

pub two_long : HasForm Long (codes "[[a]] x [[b]]") → ⊥
unfolding level closes closing_place
two_long is = longer is.0 is.1 (codes "[[a]] x [[b]]") 0 1 refl refl (omega arith) is.2

pub two_comments : IsLongComment (codes "--[[a]] x --[[b]]") → ⊥
unfolding level closes closing_place
two_comments is =
    let long : codes "[[a]] x --[[b]]" ≡ is.2 = ap (drop 2) is.3 in
    longer is.0 is.1 (codes "[[a]] x --[[b]]") 0 1 refl refl (omega arith) (subst (IsLong is.0 is.1) (sym long) is.4)

pub comment_that_opens : (behind : List ℕ) → IsLineComment (codes "--[[a]] x") behind → ⊥
comment_that_opens behind is = is.3 0 (codes "a]] x") (sym (ap (drop 2) is.1))
