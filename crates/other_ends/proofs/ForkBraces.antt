-- Tests of types, and lists in braces, that depend on what they take.
use Rattle.std.proofs.Common.{◌≡◌, ℕ, length, Bool, true, false, true≢false, not, ◌||◌, ◌&&◌, sym, ◌∙◌, subst, if◌then◌else◌, List, [], ◌∷◌, ◌++◌, refl, codes, is_some}
use Rattle.std.specs.Prelude.{Ok, Err}
use Rattle.luau_lex.specs.Tokens.{Tok}
use Rattle.luau_grammar.specs.declared.symbol.Symbol.{Symbol}
use Rattle.luau_grammar.specs.declared.symbol.Symbol.TheVariants as s
use Rattle.luau_grammar.specs.Symbols.{same, symbol_of}
use Rattle.luau_grammar.specs.Places.{first_symbol, symbol, symbol_behind, sees, sees_behind, sees_word}
use Rattle.luau_grammar.specs.Phrases.{Listed, in_parens}
use Rattle.luau_grammar.specs.Lists.{sees_separator}
use Rattle.luau_grammar.specs.Types.{sees_access, begins_property, sees_typeof, begins_tail, is_type_front, begins_named, goes_on}
use Rattle.luau_grammar.specs.Reading as read
use Rattle.luau_grammar.specs.Reading.{Setting, Parser, Outcome, Readers, ◌>>=◌, ◌>>◌, and_then, pure, start}
use Rattle.luau_grammar.specs.ReadTypes as code
use Rattle.luau_grammar.specs.ReadTypes.{Members, Braced, goes_braced, goes_members, goes_marks, goes_options}
use Rattle.other_ends.proofs.Fork.{Fork, Forked, Peeks, Peeks2, Names, Silent, IsDeep, Far, BeyondOf, here, gripped_then, deep_then, beyond_then, both, choose, least, done, peeks_sees, peeks_const, peeks_of, peeks_and, peeks_or}
use Rattle.other_ends.proofs.ForkNames.{two_of, two_or, two_name, two_word, behind_sees, behind_or, only_name, no_other, second_no, neither, names_then}
use Rattle.other_ends.proofs.ForkTokens.{any}
use Rattle.other_ends.proofs.ForkSteps.{steps, steps_far}

abbrev pub no_braced : {A : Type 0} → Braced A
no_braced = record { items = []; open_ended = true }

pub right_of : (a b : Bool) → (a && b) ≡ true → b ≡ true
right_of true b h = h
right_of false b h = absurd (true≢false (sym h))

pub left_of : (a b : Bool) → (a && b) ≡ true → a ≡ true
left_of true b h = refl
left_of false b h = absurd (true≢false (sym h))

pub left_or : (a b : Bool) → b ≡ false → (a || b) ≡ true → a ≡ true
left_or true b h k = refl
left_or false b h k = absurd (true≢false (sym k ∙ h))

pub right_or : (a b : Bool) → a ≡ false → (a || b) ≡ true → b ≡ true
right_or true b h k = absurd (true≢false h)
right_or false b h k = k

pub pure_case : {A : Type 0} (o : Outcome A) → and_then o (λ t. pure t) ≡ o
pure_case (Ok x) = refl
pure_case (Err e) = refl

module _ {w : Fork} where
  pub peeks_goes_on : Peeks w goes_on
  peeks_goes_on = peeks_or (peeks_sees s.Question) (peeks_or (peeks_sees s.Pipe) (peeks_sees s.Ampersand))

  pub peeks_front : (l : Listed) → Peeks w (is_type_front l)
  peeks_front l = peeks_or (peeks_sees s.Arrow) (peeks_and (peeks_const (is_some (in_parens l))) peeks_goes_on)

  pub two_named : Peeks2 w begins_named
  two_named = two_name (sees_behind s.Colon) (behind_sees s.Colon)

  pub two_tail : Peeks2 w begins_tail
  two_tail = two_or (two_of (peeks_sees s.Dots)) (two_name (sees_behind s.Dots) (behind_sees s.Dots))

  pub two_access : (word : List ℕ) → Peeks2 w (sees_access word)
  two_access word = two_word word (λ p. sees_behind s.Name p || sees_behind s.LeftBracket p) (behind_or (behind_sees s.Name) (behind_sees s.LeftBracket))

  pub two_property : Peeks2 w begins_property
  two_property =
      two_or (two_or (two_of (peeks_sees s.LeftBracket)) (two_name (sees_behind s.Colon) (behind_sees s.Colon)))
      (two_or (two_access (codes "read")) (two_access (codes "write")))

  pub two_typeof : Peeks2 w sees_typeof
  two_typeof = two_word (codes "typeof") (sees_behind s.LeftParen) (behind_sees s.LeftParen)

  pub peeks_separator : Peeks w sees_separator
  peeks_separator = peeks_or (peeks_sees s.Comma) (peeks_sees s.Semicolon)

  pub peeks_braced : {A : Type 0} (found : Braced A) → Peeks w (goes_braced found)
  peeks_braced found = peeks_and (peeks_const found.open_ended) (peeks_of not (peeks_sees s.RightBrace))

  pub peeks_members : (found : Members) → Peeks w (goes_members found)
  peeks_members found = peeks_and (peeks_const (not found.tailed)) (peeks_sees s.Comma)

-- ---- a name before a `.`

module _ (w : Fork) where
  behind_no : (x : Symbol) → same s.Dot x ≡ false → (ts : List Tok) (l m : ℕ) → same (first_symbol ts) s.Dot ≡ true → sees_behind x (here w.token ts l m) ≡ false
  unfolding sees_behind symbol_behind
  behind_no x n ts l m d = no_other (first_symbol ts) s.Dot x d n

  pub silent_name : (x : Symbol) → same s.Dot x ≡ false → Silent w (λ p. sees s.Name p && sees_behind x p)
  silent_name x n e ts l m d = second_no (sees s.Name (here w.token ts l m)) (sees_behind x (here w.token ts l m)) (behind_no x n ts l m d)

  pub silent_named : Silent w begins_named
  unfolding same
  silent_named = silent_name s.Colon refl

  pub silent_tail : Silent w begins_tail
  unfolding sees symbol same
  silent_tail e ts l m d =
      neither (same (symbol_of w.token) s.Dots) (same (symbol_of w.token) s.Name && sees_behind s.Dots (here w.token ts l m)) (only_name (symbol_of w.token) s.Dots e refl) (silent_name s.Dots refl e ts l m d)

  silent_access : (word : List ℕ) → Silent w (sees_access word)
  unfolding same
  silent_access word e ts l m d =
      second_no (sees_word word (here w.token ts l m)) (sees_behind s.Name (here w.token ts l m) || sees_behind s.LeftBracket (here w.token ts l m))
      (neither (sees_behind s.Name (here w.token ts l m)) (sees_behind s.LeftBracket (here w.token ts l m)) (behind_no s.Name refl ts l m d) (behind_no s.LeftBracket refl ts l m d))

  silent_property : Silent w begins_property
  unfolding sees symbol same
  silent_property e ts l m d =
      let p = here w.token ts l m in
      let bracket = same (symbol_of w.token) s.LeftBracket in
      let colon = same (symbol_of w.token) s.Name && sees_behind s.Colon p in
      neither (bracket || colon) (sees_access (codes "read") p || sees_access (codes "write") p)
      (neither bracket colon (only_name (symbol_of w.token) s.LeftBracket e refl) (silent_name s.Colon refl e ts l m d))
      (neither (sees_access (codes "read") p) (sees_access (codes "write") p) (silent_access (codes "read") e ts l m d) (silent_access (codes "write") e ts l m d))

  pub silent_brace : Silent w (λ p. sees s.RightBrace p || begins_property p)
  unfolding sees symbol same
  silent_brace e ts l m d =
      neither (same (symbol_of w.token) s.RightBrace) (begins_property (here w.token ts l m)) (only_name (symbol_of w.token) s.RightBrace e refl) (silent_property e ts l m d)

  pub silent_typeof : Silent w sees_typeof
  unfolding same
  silent_typeof e ts l m d = second_no (sees_word (codes "typeof") (here w.token ts l m)) (sees_behind s.LeftParen (here w.token ts l m)) (behind_no s.LeftParen refl ts l m d)

module _ (set : Setting) {w : Fork} where
  pub separator_forked : Forked w 0 (code.separator set)
  unfolding code.separator
  separator_forked = choose peeks_separator (least 0 refl (both (any set) (λ _. done true))) (done false)

  pub one_braced_forked : {A : Type 0} {item : Parser A} → Forked w 1 item → (found : Braced A) → Forked w 1 (code.one_braced set item found)
  one_braced_forked h found =
      least 1 refl (both h (λ x. both separator_forked (λ more. done (record { items = found.items ++ x ∷ []; open_ended = more }))))

  pub braced_forked : {A : Type 0} {item : Parser A} → Forked w 1 item → Forked w 0 (code.braced set item)
  unfolding code.braced
  braced_forked {A = A} {item = item} h =
      steps set goes_braced (code.one_braced set item) peeks_braced (one_braced_forked h) (record { items = []; open_ended = true })

  pub one_braced_names : {A : Type 0} {item : Parser A} → Names true w item → Names true w (code.one_braced set item no_braced)
  one_braced_names k = names_then k (λ x. both separator_forked (λ more. done (record { items = no_braced.items ++ x ∷ []; open_ended = more })))

  pub braced_names : {A : Type 0} {item : Parser A} → Forked w 1 item → Names true w item → Names true w (code.braced set item)
  unfolding code.braced read.repeats sees symbol same
  braced_names {A = A} {item = item} h k = record {
    taken = λ e ts l m b z.
        let p = here w.token ts l m in
        subst (λ c. Far w.bound (if not c then and_then (code.one_braced set item no_braced p) (read.repeats set goes_braced (code.one_braced set item) (length ts)) else Ok (no_braced, p)))
        (sym (only_name (symbol_of w.token) s.RightBrace e refl))
        (gripped_then true w.bound (read.repeats set goes_braced (code.one_braced set item) (length ts)) (code.one_braced set item no_braced p) ((one_braced_names k).taken e ts l m b z)
        (λ x q c. steps_far set w goes_braced (code.one_braced set item) (one_braced_forked h) (length ts) x w.bound q c));
    deep = λ e ts l m b z.
        let p = here w.token ts l m in
        subst (λ c. IsDeep (if not c then and_then (code.one_braced set item no_braced p) (read.repeats set goes_braced (code.one_braced set item) (length ts)) else Ok (no_braced, p)))
        (sym (only_name (symbol_of w.token) s.RightBrace e refl))
        (deep_then (read.repeats set goes_braced (code.one_braced set item) (length ts)) (code.one_braced set item no_braced p) ((one_braced_names k).deep e ts l m b z));
  }

  -- what begins with an item that goes beyond the token behind
  pub braced_beyond : {A : Type 0} {item : Parser A} → Forked w 1 item → same (symbol_of w.token) s.Name ≡ true → (l m : ℕ) → BeyondOf w.one (item (here w.token w.one l m)) → BeyondOf w.one (code.braced set item (here w.token w.one l m))
  unfolding code.braced read.repeats sees symbol same
  braced_beyond {A = A} {item = item} h e l m b =
      let p = here w.token w.one l m in
      subst (λ c. BeyondOf w.one (if not c then and_then (code.one_braced set item no_braced p) (read.repeats set goes_braced (code.one_braced set item) (length w.one)) else Ok (no_braced, p)))
      (sym (only_name (symbol_of w.token) s.RightBrace e refl))
      (beyond_then w.one (read.repeats set goes_braced (code.one_braced set item) (length w.one)) (code.one_braced set item no_braced p)
      (beyond_then w.one (λ x. code.separator set >>= (λ more. pure (record { items = no_braced.items ++ x ∷ []; open_ended = more }))) (item p) b
      (λ x. (both separator_forked (λ more. done (record { items = no_braced.items ++ x ∷ []; open_ended = more }))).one))
      (λ x z q c. steps_far set w goes_braced (code.one_braced set item) (one_braced_forked h) (length w.one) x z q c))
