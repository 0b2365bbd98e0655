-- The parsers of lists of types in parentheses, and of results, up to a refused token.
use Rattle.std.proofs.Common.{◌≡◌, ℕ, zero, suc, ◌+◌, ◌≤◌, Bool, true, false, not, ◌&&◌, ◌||◌, List, [], ◌∷◌, ◌++◌, length, refl, sym, ◌∙◌, ap, ap₂, subst, codes, None, is_some, arith, if◌then◌else◌, length-append}
use Rattle.std.specs.Prelude.{Ok}
use denote.Enum.Bare.{same_true}
use Rattle.luau_lex.specs.Tokens.{Tok}
use Rattle.luau_grammar.specs.contracts.symbol.Symbol.{the_type}
use Rattle.luau_tree.specs.Tree.{TypeSyntax}
use Rattle.luau_grammar.specs.declared.symbol.Symbol.{Symbol}
use Rattle.luau_grammar.specs.declared.symbol.Symbol.TheVariants as s
use Rattle.luau_grammar.specs.Symbols.{same, symbol_of}
use Rattle.luau_grammar.specs.Places.{Place, first_symbol, symbol, symbol_behind, sees, sees_behind}
use Rattle.luau_grammar.specs.Phrases.{Listed, in_parens}
use Rattle.luau_grammar.specs.Types.{begins_tail, begins_named}
use Rattle.luau_grammar.specs.Reading as read
use Rattle.luau_grammar.specs.Reading.{Parser, Outcome, Readers, ◌>>=◌, ◌>>◌, and_then, pure, start, last}
use Rattle.luau_grammar.specs.ReadPhrases as phrases
use Rattle.luau_grammar.specs.ReadTypes as code
use Rattle.luau_grammar.specs.ReadTypes.{Members, goes_members}
use Rattle.grammar_faults.proofs.Local.{Shorter, both, done, least, shorter_if}
use Rattle.grammar_faults.proofs.LocalTokens as tokens
use Rattle.grammar_faults.proofs.LocalTypes as locals
use Rattle.grammar_faults.proofs.LocalTypes.{LocalReaders}
use Rattle.fault_places.proofs.Closing.{Frame, ApartOf, place, roof, Far, Opens, Goes, far_then, opens_by}
use Rattle.fault_places.proofs.ClosingTokens.{anything, any, never, settle, choose_goes, this_opens, other_opens, goes_by, opens_from, under}
use Rattle.fault_places.proofs.ClosingSteps.{Reads, link, rest, idle, loop_reads}
use Rattle.fault_places.proofs.ClosingWords.{EndsType, the_name, the_sign, right_paren}
use Rattle.fault_places.proofs.ClosingSymbols.{symbol_of_it, at_start, at_last, a_name, either, fitted, peek_sees, sees_first}
use Rattle.fault_places.proofs.ClosingLists.{Held, EndsList, some_tails, typ_reads}
use Rattle.fault_places.proofs.ClosingBodies.{told, then_if}
use Rattle.fault_places.proofs.ClosingNames.{seen_far}
use Rattle.fault_places.proofs.ClosingPairs.{name_far, typ_named, pack_beyond, second, no_second}
use Rattle.fault_places.proofs.ClosingTypes.{variadic_reads, generic_pack_reads}
use Rattle.fault_places.proofs.ClosingChoices.{follow_by, link_by, by_two}

-- what tells what a list in parentheses is: whether a type has a name, whether there is a tail, and how many types
abbrev Form : Type 0
Form = (Bool × Bool) × ℕ

abbrev form : Members → Form
form m = ((m.named, m.tailed), length m.types)

-- with one more type
abbrev longer : Form → Bool → Form
longer k here = ((k.0.0 || here, false), k.1 + 1)

abbrev is_one : ℕ → Bool
is_one zero = false
is_one (suc zero) = true
is_one (suc (suc n)) = false

abbrev single : Bool → Bool → ℕ → Bool
single true tailed n = false
single false true n = false
single false false n = is_one n

abbrev pub is_single : Listed → Bool
is_single l = is_some (in_parens l)

single_is : (start end : ℕ) (ts : List TypeSyntax) (a b : Bool) → is_single (record { start = start; end = end; types = ts; named = a; tailed = b }) ≡ single a b (length ts)
single_is i j ts true b = refl
single_is i j ts false true = refl
single_is i j [] false false = refl
single_is i j (t ∷ []) false false = refl
single_is i j (t ∷ u ∷ ts) false false = refl

one_longer : (ts : List TypeSyntax) (t : TypeSyntax) → length (ts ++ t ∷ []) ≡ length ts + 1
one_longer ts t = length-append ts (t ∷ [])

-- a list of members ends in `)`
record AtParen (x : Symbol) : Type 0 where
  pub sees : same x s.RightParen ≡ true
  pub list : EndsList EndsType x

at_paren : AtParen s.RightParen
unfolding same
at_paren = record { sees = refl; list = record { one = right_paren.one; comma = right_paren.comma } }

pub either_no : (a b : Bool) → a ≡ false → b ≡ false → (a || b) ≡ false
either_no true b h k = h
either_no false b h k = k

pub or_second : (a b : Bool) → (a || b) ≡ true → a ≡ false → b ≡ true
or_second true b h k = absurd (cc)
or_second false b h k = h

pub is_name : (x : Symbol) → same x s.Name ≡ true → x ≡ s.Name
unfolding same
is_name x h = same_true the_type tt x s.Name h

-- a name is no other symbol
pub name_unlike : (x y : Symbol) → same x s.Name ≡ true → same s.Name y ≡ false → same x y ≡ false
name_unlike x y h k = ap (λ z. same z y) (is_name x h) ∙ k

module _ (f : Frame) (low high : Readers) (held : Held f low high) (local : LocalReaders some_tails low) where
  -- ---- one member

  abbrev with_type : Members → Bool → TypeSyntax → Members
  with_type m here t = record { types = m.types ++ t ∷ []; named = m.named || here; tailed = false }

  abbrev with_tail : Members → TypeSyntax → Members
  with_tail m t = record { types = m.types ++ t ∷ []; named = m.named; tailed = true }

  abbrev tail_low : Members → Parser Members
  tail_low m = code.tail f.low low >>= (λ t. pure (with_tail m t))

  abbrev tail_high : Members → Parser Members
  tail_high m = code.tail f.high high >>= (λ t. pure (with_tail m t))

  abbrev value_low : Members → Bool → Parser Members
  value_low m here = phrases.typ f.low low None >>= (λ t. pure (with_type m here t))

  abbrev value_high : Members → Bool → Parser Members
  value_high m here = phrases.typ f.high high None >>= (λ t. pure (with_type m here t))

  abbrev named_low : Members → Parser Members
  named_low m = (read.name f.low >> read.expect f.low s.Colon >> pure true) >>= value_low m

  abbrev named_high : Members → Parser Members
  named_high m = (read.name f.high >> read.expect f.high s.Colon >> pure true) >>= value_high m

  pub tail_reads : Reads f EndsType any (λ zs. the_name f.at ∷ the_sign f.at (codes "...") ∷ zs) tt never (code.tail f.low low) (code.tail f.high high)
  unfolding code.tail sees symbol same symbol_of
  tail_reads =
      either f {close = λ zs. the_name f.at ∷ the_sign f.at (codes "...") ∷ zs} (sees s.Dots) (peek_sees s.Dots) (λ zs l m _. refl)
      (variadic_reads f low high held local) (fitted f (λ _ _. tt) (generic_pack_reads f low high held local))

  tail_goes : (x y : Members) → form y ≡ form x → Goes f EndsType form never (tail_low x) (tail_high y)
  tail_goes x y e =
      (rest f tail_reads (λ t u.
      told f EndsType form (with_tail x t) (with_tail y u) ((x.named, true), length x.types + 1)
      (ap (λ z. ((x.named, true), z)) (one_longer x.types t))
      (ap (λ z. ((y.named, true), z)) (one_longer y.types u) ∙ ap (λ (z : Form). ((z.0.0, true), z.1 + 1)) e)) (λ _ z. z)).goes

  value_told : (x y : Members) → form y ≡ form x → (a b : Bool) → b ≡ a → (t u : TypeSyntax)
      → Reads f EndsType form (λ zs. zs) (longer (form x) a) (λ z. z ≡ longer (form x) a) (pure (with_type x a t)) (pure (with_type y b u))
  value_told x y e a b d t u =
      told f EndsType form (with_type x a t) (with_type y b u) (longer (form x) a)
      (ap (λ z. ((x.named || a, false), z)) (one_longer x.types t))
      (ap (λ z. ((y.named || b, false), z)) (one_longer y.types u) ∙ ap₂ longer e d)

  value_reads : (x y : Members) → form y ≡ form x → (a b : Bool) → b ≡ a
      → Reads f EndsType form (λ zs. the_name f.at ∷ zs) (longer (form x) a) never (value_low x a) (value_high y b)
  value_reads x y e a b d = rest f (typ_reads f low high held) (λ t u. value_told x y e a b d t u) (λ _ z. z)

  value_named : (y : Members) (b : Bool) (u : Tok) → same (symbol_of u) s.Name ≡ true → Opens f (roof f) EndsType form (λ zs. u ∷ zs) (longer (form y) b) (value_high y b)
  value_named y b u e =
      opens_by f TypeSyntax Members (Unit {0}) Form EndsType EndsType any form never (λ _ _. ⊥) never (phrases.typ f.high high None) (phrases.typ f.high high None)
      (λ t. pure (with_type y b t)) (λ t. pure (with_type y b t)) (λ _ zs. zs) (λ _. longer (form y) b) (typ_named f low high held local u e) (λ t. (value_told y y refl b b refl t t).opens) (λ _ zs z. z)

  abbrev bit : Bool → Bool
  bit b = b

  colon_reads : Reads f anything any (λ zs. the_name f.at ∷ the_sign f.at (codes ":") ∷ zs) tt never (read.name f.low >> read.expect f.low s.Colon) (read.name f.high >> read.expect f.high s.Colon)
  unfolding same symbol_of
  colon_reads = link f (a_name f) (λ _ _. symbol_of_it f s.Colon (the_sign f.at (codes ":")) refl refl) (λ _ _. tt)

  named_goes : (x y : Members) → form y ≡ form x → Goes f EndsType form never (named_low x) (named_high y)
  named_goes x y e =
      (link_by f {sh = bit} {th = form} (longer (form x))
      (rest f colon_reads (λ _ _. told f anything bit true true true refl refl) (λ _ z. z))
      (λ a b d. value_reads x y e a b d) (λ _ _. tt)).goes

  named_beyond : (x : Members) (u : Tok) (l m : ℕ) → ApartOf f.cut u → same (symbol_of u) s.Name ≡ true → begins_named (place (u ∷ f.cut) l m) ≡ true
      → Far f (named_low x (place (u ∷ f.cut) l m))
  unfolding sees sees_behind symbol symbol_behind same
  named_beyond x u l m a e d =
      far_then f (value_low x) ((read.name f.low >> read.expect f.low s.Colon >> pure true) (place (u ∷ f.cut) l m))
      (far_then f (λ _. pure true) ((read.name f.low >> read.expect f.low s.Colon) (place (u ∷ f.cut) l m))
      (name_far f u l m a (λ _. read.expect f.low s.Colon)
      (seen_far f s.Colon u.span.end m refl (second (same (symbol_of u) s.Name) (same (first_symbol f.cut) s.Colon) d)))
      (λ _ q b. b)) (λ b q c. (value_reads x x refl b b refl).goes.far q c)

  abbrev untailed_low : Members → Parser Members
  untailed_low m = λ p. if begins_named p then named_low m p else value_low m false p

  abbrev untailed_high : Members → Parser Members
  untailed_high m = λ p. if begins_named p then named_high m p else value_high m false p

  untailed_goes : (x y : Members) → form y ≡ form x → Goes f EndsType form never (untailed_low x) (untailed_high y)
  unfolding sees sees_behind symbol symbol_behind
  untailed_goes x y e =
      by_two f Members Form EndsType form begins_named (named_low x) (named_high y) (value_low x false) (value_high y false)
      (λ u e ts us l m. ap (λ z. z && same (first_symbol ts) s.Colon) e ∙ sym (ap (λ z. z && same (first_symbol us) s.Colon) e))
      (λ u w ts us l m. refl) (named_beyond x)
      (λ u e zs l m z. no_second (same (symbol_of u) s.Name) (same (first_symbol zs) s.Colon) z.colon)
      (λ zs. zs) (λ _ _ b. b) (longer (form y) false)
      (λ u e zs l m z. no_second (same (symbol_of u) s.Name) (same (first_symbol zs) s.Colon) z.colon)
      (value_named y false)
      ((least 1 refl (both (locals.typ_local f.low low some_tails local) (λ t. done (with_type x false t)))).takes)
      (named_goes x y e) (value_reads x y e false false refl).goes

  untailed_takes : (x : Members) (p : Place) → Shorter 1 p (untailed_low x p)
  untailed_takes x p =
      shorter_if 1 p (begins_named p) (named_low x p) (value_low x false p)
      ((least 1 refl (both (both (both (tokens.a_name f.low {w = some_tails}) (λ _. tokens.token f.low s.Colon)) (λ _. done true))
      (λ here. both (locals.typ_local f.low low some_tails local) (λ t. done (with_type x here t))))).takes p)
      ((least 1 refl (both (locals.typ_local f.low low some_tails local) (λ t. done (with_type x false t)))).takes p)

  untailed_named : (y : Members) (u : Tok) → same (symbol_of u) s.Name ≡ true → Opens f (roof f) EndsType form (λ zs. u ∷ zs) (longer (form y) false) (untailed_high y)
  unfolding sees sees_behind symbol symbol_behind
  untailed_named y u e =
      other_opens f {close = λ zs. u ∷ zs} begins_named (named_high y) (λ zs l m z. no_second (same (symbol_of u) s.Name) (same (first_symbol zs) s.Colon) z.colon) (value_named y false u e)

  pub tail_far : (u : Tok) (l m : ℕ) → ApartOf f.cut u → same (symbol_of u) s.Name ≡ true → begins_tail (place (u ∷ f.cut) l m) ≡ true
      → Far f (code.tail f.low low (place (u ∷ f.cut) l m))
  unfolding code.tail sees sees_behind symbol symbol_behind same
  tail_far u l m a e d =
      let q = place (u ∷ f.cut) l m in
      let n = name_unlike (symbol_of u) s.Dots e refl in
      subst (λ b. Far f (if b then code.variadic f.low low q else code.generic_pack f.low low q)) (sym n)
      (pack_beyond f low high held local u l m a e (or_second (same (symbol_of u) s.Dots) (same (symbol_of u) s.Name && same (first_symbol f.cut) s.Dots) d n))

  tail_beyond : (x : Members) (u : Tok) (l m : ℕ) → ApartOf f.cut u → same (symbol_of u) s.Name ≡ true → begins_tail (place (u ∷ f.cut) l m) ≡ true
      → Far f (tail_low x (place (u ∷ f.cut) l m))
  tail_beyond x u l m a e d = far_then f (λ t. pure (with_tail x t)) (code.tail f.low low (place (u ∷ f.cut) l m)) (tail_far u l m a e d) (λ _ _ b. b)

  pub not_tail : (u : Tok) → same (symbol_of u) s.Name ≡ true → (zs : List Tok) (l m : ℕ) → EndsType (first_symbol zs) → begins_tail (place (u ∷ zs) l m) ≡ false
  unfolding sees sees_behind symbol symbol_behind same
  not_tail u e zs l m z =
      either_no (same (symbol_of u) s.Dots) (same (symbol_of u) s.Name && same (first_symbol zs) s.Dots) (name_unlike (symbol_of u) s.Dots e refl)
      (no_second (same (symbol_of u) s.Name) (same (first_symbol zs) s.Dots) z.dots)

  pub plain_tail : (u : Tok) → same (symbol_of u) s.Name ≡ false → (ts us : List Tok) (l m : ℕ) → begins_tail (place (u ∷ ts) l m) ≡ begins_tail (place (u ∷ us) l m)
  unfolding sees sees_behind symbol symbol_behind
  plain_tail u e ts us l m =
      ap (λ z. same (symbol_of u) s.Dots || (z && same (first_symbol ts) s.Dots)) e ∙ sym (ap (λ z. same (symbol_of u) s.Dots || (z && same (first_symbol us) s.Dots)) e)

  pub two_tail : (u w : Tok) (ts us : List Tok) (l m : ℕ) → begins_tail (place (u ∷ (w ∷ ts)) l m) ≡ begins_tail (place (u ∷ (w ∷ us)) l m)
  unfolding sees sees_behind symbol symbol_behind
  two_tail u w ts us l m = refl

  member_is : (x : Members) (p : Place) → code.member f.low low x p ≡ (if begins_tail p then tail_low x p else untailed_low x p)
  unfolding code.member code.member_name
  member_is x p =
      ap (λ z. if begins_tail p then tail_low x p else z) (then_if (begins_named p) ((read.name f.low >> read.expect f.low s.Colon >> pure true) p) (Ok (false, p)) (value_low x))

  member_is_high : (x : Members) (p : Place) → code.member f.high high x p ≡ (if begins_tail p then tail_high x p else untailed_high x p)
  unfolding code.member code.member_name
  member_is_high x p =
      ap (λ z. if begins_tail p then tail_high x p else z) (then_if (begins_named p) ((read.name f.high >> read.expect f.high s.Colon >> pure true) p) (Ok (false, p)) (value_high x))

  member_reads : (x y : Members) → form y ≡ form x → Reads f EndsType form (λ zs. the_name f.at ∷ zs) (longer (form x) false) never (code.member f.low low x) (code.member f.high high y)
  unfolding same symbol_of
  member_reads x y e = record {
    goes = goes_by f (member_is x) (member_is_high y)
        (by_two f Members Form EndsType form begins_tail (tail_low x) (tail_high y) (untailed_low x) (untailed_high y)
        plain_tail two_tail (tail_beyond x) not_tail (λ zs. zs) (λ _ _ b. b) (longer (form y) false) not_tail (untailed_named y) (untailed_takes x) (tail_goes x y e) (untailed_goes x y e));
    opens = subst (λ z. Opens f (roof f) EndsType form (λ zs. the_name f.at ∷ zs) (longer z false) (code.member f.high high y)) e
        (opens_from f (member_is_high y) (other_opens f {close = λ zs. the_name f.at ∷ zs} begins_tail (tail_high y) (not_tail (the_name f.at) refl) (untailed_named y (the_name f.at) refl)));
    late = λ zs fol b. (let x : f.at ≤ f.at = omega arith in x, b);
  }

  another_member_goes : (x y : Members) → form y ≡ form x → Goes f EndsType form never (code.another_member f.low low x) (code.another_member f.high high y)
  unfolding code.another_member same symbol_of
  another_member_goes x y e = (link f (symbol_of_it f s.Comma (the_sign f.at (codes ",")) refl refl) (λ _ _. member_reads x y e) (λ _ _. tt)).goes

  no_more : (a b : Bool) → b ≡ false → (a && b) ≡ false
  no_more true b h = h
  no_more false b h = refl

  members_from_reads : (x y : Members) → form y ≡ form x
      → Reads f (EndsList EndsType) form (λ zs. zs) (form x) (λ z. z ≡ form x) (code.members_from f.low low x) (code.members_from f.high high y)
  unfolding code.members_from
  members_from_reads x y e =
      loop_reads f Members Form (EndsList EndsType) EndsType form goes_members (code.another_member f.low low) (code.another_member f.high high)
      (λ x y e u ts us l m. ap₂ (λ (v : Form) w. not v.0.1 && w) e (peek_sees s.Comma u us ts l m)) another_member_goes
      (λ y zs l m z. no_more (not y.tailed) (sees s.Comma (place zs l m)) (sees_first s.Comma zs l m ∙ z.comma)) (λ x z. z.one)
      (λ x. (locals.another_member_local f.low low some_tails local x).takes) x y e (form x) refl

  abbrev no_members : Members
  no_members = record { types = []; named = false; tailed = false }

  members_reads : Reads f (EndsList EndsType) form (λ zs. the_name f.at ∷ zs) (longer (form no_members) false) never (code.members f.low low) (code.members f.high high)
  unfolding code.members
  members_reads = follow_by f {sh = form} {th = form} (λ k. k) (member_reads no_members no_members refl) members_from_reads (λ x z. z.one)

  maybe_members_reads : Reads f AtParen form (λ zs. zs) (form no_members) (λ z. z ≡ form no_members) (code.maybe_members f.low low) (code.maybe_members f.high high)
  unfolding code.maybe_members
  maybe_members_reads =
      let empty = told f AtParen form no_members no_members (form no_members) refl refl in
      record {
        goes = choose_goes f (sees s.RightParen) (peek_sees s.RightParen) empty.goes (settle f (λ d b. absurd b) (under f (λ x z. z.list) members_reads.goes));
        opens = this_opens f {close = λ zs. zs} (sees s.RightParen) (code.members f.high high) (λ zs l m h. sees_first s.RightParen zs l m ∙ h.sees) empty.opens;
        late = λ _ _ b. b;
      }

  -- ---- lists in parentheses

  abbrev closed_list : ℕ → Members → Parser Listed
  closed_list from m = last >>= (λ to. pure (record { start = from; end = to; types = m.types; named = m.named; tailed = m.tailed }))

  abbrev is_sole : Form → Bool
  is_sole k = single k.0.0 k.0.1 k.1

  sole_told : (a b : ℕ) (x y : Members) → form y ≡ form x → (i j : ℕ)
      → Reads f anything is_single (λ zs. zs) (is_sole (form x)) (λ z. z ≡ is_sole (form x))
      (pure (record { start = a; end = i; types = x.types; named = x.named; tailed = x.tailed })) (pure (record { start = b; end = j; types = y.types; named = y.named; tailed = y.tailed }))
  sole_told a b x y e i j =
      told f anything is_single (record { start = a; end = i; types = x.types; named = x.named; tailed = x.tailed }) (record { start = b; end = j; types = y.types; named = y.named; tailed = y.tailed })
      (is_sole (form x)) (single_is a i x.types x.named x.tailed) (single_is b j y.types y.named y.tailed ∙ ap is_sole e)

  pub listed_reads : Reads f anything is_single (λ zs. the_sign f.at (codes "(") ∷ the_sign f.at (codes ")") ∷ zs) false never (code.listed f.low low) (code.listed f.high high)
  unfolding code.listed same symbol_of
  listed_reads =
      link f (at_start f anything) (λ a b.
      link f (symbol_of_it f s.LeftParen (the_sign f.at (codes "(")) refl refl) (λ _ _.
      link_by f {sh = form} {th = is_single} is_sole maybe_members_reads (λ x y e.
      rest f (symbol_of_it f s.RightParen (the_sign f.at (codes ")")) refl refl) (λ _ _.
      idle f (at_last f anything) (λ i j. sole_told a b x y e i j) (λ _ z. z)) (λ _ z. z))
      (λ _ _. at_paren)) (λ _ _. tt)) (λ _ _. tt)
