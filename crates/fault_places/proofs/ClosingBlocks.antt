-- The parsers of statements and blocks up to a refused token.
use Rattle.std.proofs.Common.{◌≡◌, ℕ, ◌≤◌, Bool, true, false, true≢false, Option, None, not, ◌&&◌, ◌||◌, List, [], ◌∷◌, ◌++◌, refl, sym, ◌∙◌, ap, subst, inl, inr, codes, arith, bytes_eq, if◌then◌else◌}
use Rattle.std.specs.Prelude.{Ok, Err}
use denote.Enum.Bare.{same_true}
use Rattle.luau_lex.specs.Tokens.{Tok}
use Rattle.luau_tree.specs.declared.position.Span.{Span}
use Rattle.luau_tree.specs.Tree.{Expr, Stat, StatKind, Block}
use Rattle.luau_tree.specs.Tree as tree
use Rattle.luau_tree.specs.View.{stats, binds, exprs}
use Rattle.luau_grammar.specs.contracts.symbol.Symbol.{the_type}
use Rattle.luau_grammar.specs.declared.symbol.Symbol.{Symbol}
use Rattle.luau_grammar.specs.declared.symbol.Symbol.TheVariants as s
use Rattle.luau_grammar.specs.Symbols.{same, symbol_of}
use Rattle.luau_grammar.specs.Places.{Place, first_symbol, symbol, symbol_behind, sees, sees_behind, sees_word, start_of}
use Rattle.luau_grammar.specs.Statements.{is_last, begins, closes, second_bytes, sees_continue, sees_type, sees_export}
use Rattle.luau_grammar.specs.Reading as read
use Rattle.luau_grammar.specs.Reading.{Setting, Parser, Outcome, Readers, ◌>>=◌, ◌>>◌, and_then, pure, start, set_level, refusal}
use Rattle.luau_grammar.specs.ReadPhrases as phrases
use Rattle.luau_grammar.specs.ReadTypes as types
use Rattle.luau_grammar.specs.ReadExpressions as values
use Rattle.luau_grammar.specs.ReadStatements as code
use Rattle.luau_grammar.specs.ReadStatements.{Statements}
use Rattle.grammar_faults.proofs.Local.{Shorter, shorter_if, both, least}
use Rattle.grammar_faults.proofs.LocalTokens as tokens
use Rattle.grammar_faults.proofs.LocalTypes.{LocalReaders}
use Rattle.grammar_faults.proofs.LocalStatements as locals
use Rattle.fault_places.proofs.Closing.{Frame, ApartOf, place, Beyond, Before, Late, top, roof, Far, Opens, Closed, Claim, Goes, far_then, claim_from}
use Rattle.fault_places.proofs.ClosingTokens.{anything, any, never, settle, other_opens, under, under_opens, refuses, forget, forget_opens, far_if, idle_if, claim_if, ends_by, fits_roof}
use Rattle.fault_places.proofs.ClosingSteps.{Reads, link, idle, loop_reads, fewer}
use Rattle.fault_places.proofs.ClosingWords.{the_name, the_sign, the_word}
use Rattle.fault_places.proofs.ClosingSymbols.{symbol_of_it, token, given, a_name, eaten, fitted}
use Rattle.fault_places.proofs.ClosingLists.{Held, EndsBlock, some_tails, typ_reads}
use Rattle.fault_places.proofs.ClosingNames.{seen_far}
use Rattle.fault_places.proofs.ClosingBodies.{told}
use Rattle.fault_places.proofs.ClosingStatements.{while_reads, repeat_reads, if_reads, for_reads, local_reads, type_statement_reads, word_statement_reads, do_reads}
use Rattle.fault_places.proofs.ClosingPairs.{second, no_second}
use Rattle.fault_places.proofs.ClosingTables.{any_far}
use Rattle.fault_places.proofs.ClosingTypes.{generics_reads}
use Rattle.fault_places.proofs.ClosingForms.{result_reads}
use Rattle.fault_places.proofs.ClosingMembers.{either_no}
use Rattle.fault_places.proofs.ClosingExpressions.{a_body_reads}
use Rattle.fault_places.proofs.ClosingAssignments.{EndsCall, prefix_statement_reads, prefix_named, prefix_alone}
use Rattle.fault_places.proofs.ClosingFunctions.{Gives, gives, gives_it, gives_if, shaped, function_statement_reads, attributed_goes, return_goes}
use Rattle.fault_places.proofs.ClosingChoices.{follow_by, by_two, by_peek, opens_at}

pub block_stop : EndsBlock s.Stop
unfolding same
block_stop = record {
  value = record { typ = record { question = refl; pipe = refl; ampersand = refl; arrow = refl; less = refl; dot = refl; dots = refl; colon = refl; paren = refl; assign = refl; name = refl; bracket = refl }; bracket = refl; brace = refl; text = refl; cast = refl; binary = refl };
  comma = refl;
  semicolon = refl;
  statement = refl;
  closes = refl;
  compound = refl;
  expression = refl;
}

-- a symbol that begins no statement is not one that does
unlike_by : (x y : Symbol) (b : Bool) → same x y ≡ b → begins x ≡ false → begins y ≡ true → b ≡ false
unfolding same
unlike_by x y true e h k = absurd (true≢false (sym k ∙ (sym (ap begins (same_true the_type tt x y e)) ∙ h)))
unlike_by x y false e h k = refl

no_function : (x : Symbol) → EndsBlock x → same x s.Function ≡ false
no_function x z = unlike_by x s.Function (same x s.Function) refl z.statement refl

first_no : (a b : Bool) → a ≡ false → (a && b) ≡ false
first_no true b h = absurd (cc)
first_no false b h = refl

first_of : (a b : Bool) → (a && b) ≡ true → a ≡ true
first_of true b h = refl
first_of false b h = absurd (cc)

both_yes : (a b : Bool) → a ≡ true → b ≡ true → (a && b) ≡ true
both_yes true b h k = k
both_yes false b h k = absurd (cc)

one_of : (a b : Bool) → (a || b) ≡ true → b ≡ false → a ≡ true
one_of true b h k = refl
one_of false b h k = absurd (cc)

module _ (f : Frame) (low high : Readers) (held : Held f low high) (local : LocalReaders some_tails low) (others : LocalReaders some_tails high) where
  abbrev assigning : List Tok → List Tok
  assigning = λ zs. the_sign f.at (codes "=") ∷ the_name f.at ∷ zs

  assigning_late : (H : Symbol → Type 0) → Late f H assigning
  assigning_late H zs fol b = let x : f.at ≤ f.at = omega arith in (x, (x, b))

  call_end : (x : Symbol) → EndsBlock x → EndsCall x
  call_end x z = record { list = record { one = z.value; comma = z.comma }; compound = z.compound }

  -- ---- the words `type` and `export`

  next_at_cut : (x : Symbol) (l m : ℕ) → same s.Stop x ≡ false → same (first_symbol f.cut) x ≡ true → Far f (read.next f.low (place f.cut l m))
  unfolding read.expect sees symbol
  next_at_cut x l m d e =
      let q = place f.cut l m in
      subst (λ b. Far f (if b then read.next f.low q else read.refuse f.low q)) e (seen_far f x l m d e)

  generics : Reads f (λ y. same y s.Less ≡ false) any (λ zs. zs) tt (λ z. z ≡ tt) (types.generics f.low low true) (types.generics f.high high true)
  generics = generics_reads f low high held local (result_reads f low high held local) true

  alias_far : (a : ℕ) (x : Bool) (q : Place) → Far f (read.name f.low q) → Far f (code.alias f.low low a x q)
  unfolding code.alias same symbol_of
  alias_far a x q h =
      far_then f (λ n. types.generics f.low low true >>= (λ g. read.expect f.low s.Assign >>= (λ _. phrases.typ f.low low None >>= (λ t. read.span_from a >>= (λ i. pure (tree.the_stat i (tree.TypeAlias x n g t)))))))
      (read.name f.low q) h
      (λ n p b. far_then f (λ g. read.expect f.low s.Assign >>= (λ _. phrases.typ f.low low None >>= (λ t. read.span_from a >>= (λ i. pure (tree.the_stat i (tree.TypeAlias x n g t)))))) (types.generics f.low low true p) (generics.goes.far p b)
      (λ g o c. far_then f (λ _. phrases.typ f.low low None >>= (λ t. read.span_from a >>= (λ i. pure (tree.the_stat i (tree.TypeAlias x n g t))))) (read.expect f.low s.Assign o) ((symbol_of_it f s.Assign (the_sign f.at (codes "=")) refl refl).goes.far o c)
      (λ _ r d. far_then f (λ t. read.span_from a >>= (λ i. pure (tree.the_stat i (tree.TypeAlias x n g t)))) (phrases.typ f.low low None r) ((typ_reads f low high held).goes.far r d) (λ _ _ e. e))))

  type_function_far : (a : ℕ) (x : Bool) (q : Place) → Far f (read.expect f.low s.Function q) → Far f (code.type_function f.low low a x q)
  unfolding code.type_function
  type_function_far a x q h =
      far_then f (λ _. read.name f.low >>= (λ n. values.body f.low low None >>= (λ b. read.span_from a >>= (λ i. pure (tree.the_stat i (tree.TypeFunction x n b)))))) (read.expect f.low s.Function q) h
      (λ _ p b. far_then f (λ n. values.body f.low low None >>= (λ b. read.span_from a >>= (λ i. pure (tree.the_stat i (tree.TypeFunction x n b))))) (read.name f.low p) ((a_name f).goes.far p b)
      (λ n o c. far_then f (λ b. read.span_from a >>= (λ i. pure (tree.the_stat i (tree.TypeFunction x n b)))) (values.body f.low low None o) ((a_body_reads f low high held local others None None).goes.far o c) (λ _ _ d. d)))

  abbrev declared : ℕ → Bool → Parser Stat
  declared a x = λ p. if sees s.Function p then code.type_function f.low low a x p else code.alias f.low low a x p

  name_far_at : (q : Place) → Far f (read.expect f.low s.Name q) → Far f (read.name f.low q)
  unfolding read.name
  name_far_at q h = far_then f (λ t. pure t.bytes) (read.expect f.low s.Name q) h (λ _ _ b. b)

  declared_far : (a : ℕ) (x : Bool) (q : Place) → Beyond f q.ahead → Far f (declared a x q)
  unfolding same symbol_of
  declared_far a x q b =
      far_if f (sees s.Function q) (code.type_function f.low low a x q) (code.alias f.low low a x q)
      (type_function_far a x q ((symbol_of_it f s.Function (the_word f.at (codes "function")) refl refl).goes.far q b)) (alias_far a x q ((a_name f).goes.far q b))

  declared_at_cut : (a : ℕ) (x : Bool) (l m : ℕ) (b : Bool) → same (first_symbol f.cut) s.Function ≡ b → (same (first_symbol f.cut) s.Name || same (first_symbol f.cut) s.Function) ≡ true → Far f (declared a x (place f.cut l m))
  unfolding sees symbol same
  declared_at_cut a x l m true e d =
      let q = place f.cut l m in
      subst (λ b. Far f (if b then code.type_function f.low low a x q else code.alias f.low low a x q)) (sym e) (type_function_far a x q (seen_far f s.Function l m refl e))
  declared_at_cut a x l m false e d =
      let q = place f.cut l m in
      subst (λ b. Far f (if b then code.type_function f.low low a x q else code.alias f.low low a x q)) (sym e)
      (alias_far a x q (name_far_at q (seen_far f s.Name l m refl (one_of (same (first_symbol f.cut) s.Name) (same (first_symbol f.cut) s.Function) d e))))

  type_beyond : (a : ℕ) (u : Tok) (l m : ℕ) → ApartOf f.cut u → same (symbol_of u) s.Name ≡ true → sees_type (place (u ∷ f.cut) l m) ≡ true → Far f (code.type_statement f.low low a false (place (u ∷ f.cut) l m))
  unfolding code.type_statement sees_behind symbol_behind
  type_beyond a u l m h e d =
      any_far f u l m (λ _. declared a false)
      (declared_at_cut a false (u.span.end) m (same (first_symbol f.cut) s.Function) refl
      (second (sees_word (codes "type") (place (u ∷ f.cut) l m)) (same (first_symbol f.cut) s.Name || same (first_symbol f.cut) s.Function) d))

  abbrev export_low : ℕ → Parser Stat
  export_low a = read.next f.low >> code.type_statement f.low low a true

  abbrev export_high : ℕ → Parser Stat
  export_high b = read.next f.high >> code.type_statement f.high high b true

  export_beyond : (a : ℕ) (u : Tok) (l m : ℕ) → ApartOf f.cut u → same (symbol_of u) s.Name ≡ true → sees_export (place (u ∷ f.cut) l m) ≡ true → Far f (export_low a (place (u ∷ f.cut) l m))
  unfolding code.type_statement sees_behind symbol_behind same
  export_beyond a u l m h e d =
      let q = place f.cut u.span.end m in
      let n = first_of (same (first_symbol f.cut) s.Name) (bytes_eq (second_bytes (u ∷ f.cut)) (codes "type"))
      (second (sees_word (codes "export") (place (u ∷ f.cut) l m)) (same (first_symbol f.cut) s.Name && bytes_eq (second_bytes (u ∷ f.cut)) (codes "type")) d) in
      any_far f u l m (λ _. code.type_statement f.low low a true)
      (far_then f (λ _. declared a true) (read.next f.low q) (next_at_cut s.Name (u.span.end) m refl n) (λ _ p b. declared_far a true p b))

  abbrev others_low : ℕ → Parser Stat
  others_low a = λ p. if sees_export p then export_low a p else code.prefix_statement f.low low a p

  abbrev others_high : ℕ → Parser Stat
  others_high b = λ p. if sees_export p then export_high b p else code.prefix_statement f.high high b p

  abbrev typed_low : ℕ → Parser Stat
  typed_low a = λ p. if sees_type p then code.type_statement f.low low a false p else others_low a p

  abbrev typed_high : ℕ → Parser Stat
  typed_high b = λ p. if sees_type p then code.type_statement f.high high b false p else others_high b p

  plain_export : (u : Tok) → same (symbol_of u) s.Name ≡ false → (ts us : List Tok) (l m : ℕ) → sees_export (place (u ∷ ts) l m) ≡ sees_export (place (u ∷ us) l m)
  unfolding sees sees_behind symbol symbol_behind sees_word
  plain_export u e ts us l m =
      ap (λ z. (z && bytes_eq u.bytes (codes "export")) && (same (first_symbol ts) s.Name && bytes_eq (second_bytes (u ∷ ts)) (codes "type"))) e
      ∙ sym (ap (λ z. (z && bytes_eq u.bytes (codes "export")) && (same (first_symbol us) s.Name && bytes_eq (second_bytes (u ∷ us)) (codes "type"))) e)

  plain_type : (u : Tok) → same (symbol_of u) s.Name ≡ false → (ts us : List Tok) (l m : ℕ) → sees_type (place (u ∷ ts) l m) ≡ sees_type (place (u ∷ us) l m)
  unfolding sees sees_behind symbol symbol_behind sees_word
  plain_type u e ts us l m =
      ap (λ z. (z && bytes_eq u.bytes (codes "type")) && (same (first_symbol ts) s.Name || same (first_symbol ts) s.Function)) e
      ∙ sym (ap (λ z. (z && bytes_eq u.bytes (codes "type")) && (same (first_symbol us) s.Name || same (first_symbol us) s.Function)) e)

  two_export : (u w : Tok) (ts us : List Tok) (l m : ℕ) → sees_export (place (u ∷ (w ∷ ts)) l m) ≡ sees_export (place (u ∷ (w ∷ us)) l m)
  unfolding sees sees_behind symbol symbol_behind sees_word
  two_export u w ts us l m = refl

  two_type : (u w : Tok) (ts us : List Tok) (l m : ℕ) → sees_type (place (u ∷ (w ∷ ts)) l m) ≡ sees_type (place (u ∷ (w ∷ us)) l m)
  unfolding sees sees_behind symbol symbol_behind sees_word
  two_type u w ts us l m = refl

  no_export : (u : Tok) (zs : List Tok) (l m : ℕ) → same (first_symbol zs) s.Name ≡ false → sees_export (place (u ∷ zs) l m) ≡ false
  unfolding sees_behind symbol_behind
  no_export u zs l m h =
      no_second (sees_word (codes "export") (place (u ∷ zs) l m)) (same (first_symbol zs) s.Name && bytes_eq (second_bytes (u ∷ zs)) (codes "type"))
      (first_no (same (first_symbol zs) s.Name) (bytes_eq (second_bytes (u ∷ zs)) (codes "type")) h)

  no_type : (u : Tok) (zs : List Tok) (l m : ℕ) → same (first_symbol zs) s.Name ≡ false → same (first_symbol zs) s.Function ≡ false → sees_type (place (u ∷ zs) l m) ≡ false
  unfolding sees_behind symbol_behind
  no_type u zs l m h k =
      no_second (sees_word (codes "type") (place (u ∷ zs) l m)) (same (first_symbol zs) s.Name || same (first_symbol zs) s.Function) (either_no (same (first_symbol zs) s.Name) (same (first_symbol zs) s.Function) h k)

  -- ---- what the statements' values are

  alias_gives : (inner : Readers) (set : Setting) (a : ℕ) (x : Bool) → Gives is_last false (code.alias set inner a x)
  unfolding code.alias
  alias_gives inner set a x = gives (read.name set) (λ n. gives (types.generics set inner true) (λ g. gives (read.expect set s.Assign) (λ _. gives (phrases.typ set inner None) (λ t. gives (read.span_from a) (λ i. gives_it (tree.the_stat i (tree.TypeAlias x n g t)) refl)))))

  type_function_gives : (inner : Readers) (set : Setting) (a : ℕ) (x : Bool) → Gives is_last false (code.type_function set inner a x)
  unfolding code.type_function
  type_function_gives inner set a x = gives (read.expect set s.Function) (λ _. gives (read.name set) (λ n. gives (values.body set inner None) (λ b. gives (read.span_from a) (λ i. gives_it (tree.the_stat i (tree.TypeFunction x n b)) refl))))

  type_gives : (inner : Readers) (set : Setting) (a : ℕ) (x : Bool) → Gives is_last false (code.type_statement set inner a x)
  unfolding code.type_statement
  type_gives inner set a x = gives (read.next set) (λ _. gives_if (sees s.Function) (type_function_gives inner set a x) (alias_gives inner set a x))

  told_last : {F : Symbol → Type 0} {r v : Parser Stat} (kind : Bool) → Gives is_last kind r → Gives is_last kind v → ((x : Symbol) → EndsBlock x → F x) → Goes f F any never r v → Goes f EndsBlock is_last never r v
  told_last kind h k joins g = settle f (λ _ c. c.1) (shaped f is_last kind h k (under f joins g))

  abbrev the_bodies : (m n : Option Span) → Reads f anything any (λ zs. the_sign f.at (codes "(") ∷ the_sign f.at (codes ")") ∷ the_word f.at (codes "end") ∷ zs) tt never
      (values.body f.low low m) (values.body f.high high n)
  the_bodies = a_body_reads f low high held local others

  type_goes : (a b : ℕ) (x : Bool) → Goes f EndsBlock is_last never (code.type_statement f.low low a x) (code.type_statement f.high high b x)
  type_goes a b x = told_last false (type_gives low f.low a x) (type_gives high f.high b x) (λ _ z. z.value.typ) (type_statement_reads f low high held local the_bodies generics a b x).goes

  export_goes : (a b : ℕ) → Goes f EndsBlock is_last never (export_low a) (export_high b)
  export_goes a b =
      told_last false (gives (read.next f.low) (λ _. type_gives low f.low a true)) (gives (read.next f.high) (λ _. type_gives high f.high b true)) (λ _ z. z.value.typ)
      (link f (token f (the_name f.at) refl) (λ _ _. type_statement_reads f low high held local the_bodies generics a b true) (λ _ _. tt)).goes

  -- ---- statements that begin with a name

  closed_by_assignment : (u : Tok) (e : same (symbol_of u) s.Name ≡ true) (b : ℕ) → Opens f (roof f) EndsBlock is_last (λ zs. u ∷ assigning zs) false (code.prefix_statement f.high high b)
  closed_by_assignment u e b = under_opens f call_end (prefix_named f low high held local others u e b)

  others_goes : (a b : ℕ) → Goes f EndsBlock is_last never (others_low a) (others_high b)
  unfolding same symbol_of
  others_goes a b =
      by_two f Stat Bool EndsBlock is_last sees_export (export_low a) (export_high b) (code.prefix_statement f.low low a) (code.prefix_statement f.high high b)
      plain_export two_export (export_beyond a) (λ u e zs l m z. no_export u zs l m z.value.typ.name)
      assigning (assigning_late EndsBlock) false (λ u e zs l m _. no_export u (assigning zs) l m refl) (λ u e. closed_by_assignment u e b)
      ((locals.prefix_statement_local f.low low some_tails local a).takes)
      (export_goes a b) (under f call_end (prefix_statement_reads f low high held local others a b).goes)

  others_named : (u : Tok) (e : same (symbol_of u) s.Name ≡ true) (b : ℕ) → Opens f (roof f) EndsBlock is_last (λ zs. u ∷ assigning zs) false (others_high b)
  unfolding same symbol_of
  others_named u e b = other_opens f {close = λ zs. u ∷ assigning zs} sees_export (export_high b) (λ zs l m _. no_export u (assigning zs) l m refl) (closed_by_assignment u e b)

  others_takes : (a : ℕ) (p : Place) → Shorter 1 p (others_low a p)
  others_takes a p =
      shorter_if 1 p (sees_export p) (export_low a p) (code.prefix_statement f.low low a p)
      ((least 1 refl (both (tokens.any f.low {w = some_tails}) (λ _. locals.type_statement_local f.low low some_tails local a true))).takes p)
      ((locals.prefix_statement_local f.low low some_tails local a).takes p)

  typed_goes : (a b : ℕ) → Goes f EndsBlock is_last never (typed_low a) (typed_high b)
  unfolding same symbol_of
  typed_goes a b =
      by_two f Stat Bool EndsBlock is_last sees_type (code.type_statement f.low low a false) (code.type_statement f.high high b false) (others_low a) (others_high b)
      plain_type two_type (type_beyond a) (λ u e zs l m z. no_type u zs l m z.value.typ.name (no_function (first_symbol zs) z))
      assigning (assigning_late EndsBlock) false (λ u e zs l m _. no_type u (assigning zs) l m refl refl) (λ u e. others_named u e b) (others_takes a) (type_goes a b false) (others_goes a b)

  typed_named : (u : Tok) (e : same (symbol_of u) s.Name ≡ true) (b : ℕ) → Opens f (roof f) EndsBlock is_last (λ zs. u ∷ assigning zs) false (typed_high b)
  unfolding same symbol_of
  typed_named u e b = other_opens f {close = λ zs. u ∷ assigning zs} sees_type (code.type_statement f.high high b false) (λ zs l m _. no_type u (assigning zs) l m refl refl) (others_named u e b)

  typed_takes : (a : ℕ) (p : Place) → Shorter 1 p (typed_low a p)
  typed_takes a p =
      shorter_if 1 p (sees_type p) (code.type_statement f.low low a false p) (others_low a p)
      ((locals.type_statement_local f.low low some_tails local a false).takes p) (others_takes a p)

  typed_alone : (u : Tok) (e : same (symbol_of u) s.Name ≡ true) (b l m : ℕ) → m ≤ roof f → (x : Stat × Place) → typed_high b (place (u ∷ []) l m) ≡ Ok x → ⊥
  unfolding same
  typed_alone u e b l m h x k =
      let p = place (u ∷ []) l m in
      prefix_alone f low high held local others u e b l m h x
      (sym (ap (λ z. if z then export_high b p else code.prefix_statement f.high high b p) (no_export u [] l m refl))
      ∙ (sym (ap (λ z. if z then code.type_statement f.high high b false p else others_high b p) (no_type u [] l m refl refl)) ∙ k))

  -- ---- the word `continue`

  abbrev word_low : ℕ → Parser Stat
  word_low a = code.word_statement f.low low a tree.Continue

  abbrev word_high : ℕ → Parser Stat
  word_high b = code.word_statement f.high high b tree.Continue

  word_gives : (inner : Readers) (set : Setting) (a : ℕ) (kind : StatKind) → Gives is_last (is_last (tree.the_stat (record { start = 0; end = 0 }) kind)) (code.word_statement set inner a kind)
  unfolding code.word_statement
  word_gives inner set a kind = gives (read.next set) (λ _. gives (read.span_from a) (λ i. gives_it (tree.the_stat i kind) refl))

  word_goes : (a b : ℕ) (kind : StatKind) → Goes f anything is_last never (code.word_statement f.low low a kind) (code.word_statement f.high high b kind)
  word_goes a b kind =
      settle f (λ _ c. c.1)
      (shaped f is_last (is_last (tree.the_stat (record { start = 0; end = 0 }) kind)) (word_gives low f.low a kind) (word_gives high f.high b kind) (word_statement_reads f low high held local a b kind).goes)

  abbrev named_low : ℕ → Parser Stat
  named_low a = λ p. if sees_continue p then word_low a p else typed_low a p

  abbrev named_high : ℕ → Parser Stat
  named_high b = λ p. if sees_continue p then word_high b p else typed_high b p

  named_opens : (u : Tok) (e : same (symbol_of u) s.Name ≡ true) (b : ℕ) → Opens f (roof f) EndsBlock is_last (λ zs. u ∷ assigning zs) false (named_high b)
  unfolding symbol_behind symbol_of
  named_opens u e b = other_opens f {close = λ zs. u ∷ assigning zs} sees_continue (word_high b) (λ zs l m _. no_second (sees_word (codes "continue") (place (u ∷ assigning zs) l m)) false refl) (typed_named u e b)

  named_closed : (u : Tok) (e : same (symbol_of u) s.Name ≡ true) (b l m : ℕ) → m ≤ top f → Closed f EndsBlock is_last (named_high b) (u ∷ []) l m
  named_closed u e b l m h = record { close = assigning; kind = false; late = assigning_late EndsBlock; ends = λ zs fol. (named_opens u e b).opens zs l m (fits_roof f m h) fol }

  continue_seen : (u : Tok) (ts us : List Tok) (l m : ℕ) → sees_continue (place (u ∷ ts) l m) ≡ true → closes (first_symbol us) ≡ true → sees_continue (place (u ∷ us) l m) ≡ true
  unfolding symbol_behind sees_word sees symbol
  continue_seen u ts us l m d h =
      let w = same (symbol_of u) s.Name && bytes_eq u.bytes (codes "continue") in
      both_yes w (closes (first_symbol us)) (first_of w (closes (first_symbol ts)) d) h

  plain_continue : (u : Tok) → same (symbol_of u) s.Name ≡ false → (ts us : List Tok) (l m : ℕ) → sees_continue (place (u ∷ ts) l m) ≡ sees_continue (place (u ∷ us) l m)
  unfolding sees symbol symbol_behind sees_word
  plain_continue u e ts us l m =
      ap (λ z. (z && bytes_eq u.bytes (codes "continue")) && closes (first_symbol ts)) e ∙ sym (ap (λ z. (z && bytes_eq u.bytes (codes "continue")) && closes (first_symbol us)) e)

  two_continue : (u w : Tok) (ts us : List Tok) (l m : ℕ) → sees_continue (place (u ∷ (w ∷ ts)) l m) ≡ sees_continue (place (u ∷ (w ∷ us)) l m)
  unfolding sees symbol symbol_behind sees_word
  two_continue u w ts us l m = refl

  no_fewer : (u w : Tok) (vs : List Tok) (x : Stat × Place) (l m : ℕ) → x.1.ahead ≡ w ∷ (vs ++ f.cut) → Shorter 1 (place (u ∷ f.cut) l m) (Ok x) → ⊥
  no_fewer u w vs x l m e h = let k = fewer f [] vs f.cut u w x l m e h in absurd (omega arith)

  word_claim : (b : ℕ) (u : Tok) (l m : ℕ) → m ≤ top f → same (symbol_of u) s.Name ≡ true → sees_continue (place (u ∷ f.cut) l m) ≡ true → (o : Outcome Stat) → Shorter 1 (place (u ∷ f.cut) l m) o
      → Claim f anything is_last (word_high b) (u ∷ []) l m o → Claim f EndsBlock is_last (named_high b) (u ∷ []) l m o
  word_claim b u l m h e d (Err c) t k = λ _. named_closed u e b l m h
  word_claim b u l m h e d (Ok x) t (inl k) = inl k
  word_claim b u l m h e d (Ok x) t (inr (inl k)) = absurd (no_fewer u k.token k.rest x l m k.ahead t)
  word_claim b u l m h e d (Ok x) t (inr (inr k)) =
      inr (inr (record {
        ahead = k.ahead;
        ends = λ new fol.
            ends_by f (roof f) is_last (is_last x.0) (named_high b) (word_high b) (place (u ∷ new) l m) new
            (ap (λ z. if z then word_high b (place (u ∷ new) l m) else typed_high b (place (u ∷ new) l m)) (continue_seen u f.cut new l m d fol.closes)) (k.ends new tt);
      }))

  typed_claim : (b : ℕ) (u : Tok) (l m : ℕ) → m ≤ top f → same (symbol_of u) s.Name ≡ true → (o : Outcome Stat) → Shorter 1 (place (u ∷ f.cut) l m) o
      → Claim f EndsBlock is_last (typed_high b) (u ∷ []) l m o → Claim f EndsBlock is_last (named_high b) (u ∷ []) l m o
  typed_claim b u l m h e (Err c) t k = λ _. named_closed u e b l m h
  typed_claim b u l m h e (Ok x) t (inl k) = inl k
  typed_claim b u l m h e (Ok x) t (inr (inl k)) = absurd (no_fewer u k.token k.rest x l m k.ahead t)
  typed_claim b u l m h e (Ok x) t (inr (inr k)) =
      let g = k.ends [] block_stop in
      absurd (typed_alone u e b l m (fits_roof f m h) (g.value, place [] g.last g.level) g.reads)

  -- the tests agree
  named_alike : (a b : ℕ) (u : Tok) (us : List Tok) (l m : ℕ) → m ≤ top f → Before f (u ∷ us) → ((new : List Tok) → sees_continue (place (u ∷ (us ++ new)) l m) ≡ sees_continue (place (u ∷ (us ++ f.cut)) l m))
      → Claim f EndsBlock is_last (named_high b) (u ∷ us) l m (named_low a (place (u ∷ (us ++ f.cut)) l m))
  named_alike a b u us l m h d peek =
      let q = place (u ∷ (us ++ f.cut)) l m in
      let word : Goes f EndsBlock is_last never (word_low a) (word_high b) = under f (λ _ _. tt) (word_goes a b tree.Continue) in
      claim_if f EndsBlock is_last (named_high b) (u ∷ us) l m (sees_continue q) (word_low a q) (typed_low a q)
      (λ e. claim_from f EndsBlock is_last (named_high b) (word_high b) (u ∷ us) (u ∷ us) l m l m
      (λ new. ap (λ z. if z then word_high b (place (u ∷ (us ++ new)) l m) else typed_high b (place (u ∷ (us ++ new)) l m)) (peek new ∙ e)) (word_low a q)
      (word.inside u us l m h d))
      (λ e. claim_from f EndsBlock is_last (named_high b) (typed_high b) (u ∷ us) (u ∷ us) l m l m
      (λ new. ap (λ z. if z then word_high b (place (u ∷ (us ++ new)) l m) else typed_high b (place (u ∷ (us ++ new)) l m)) (peek new ∙ e)) (typed_low a q) ((typed_goes a b).inside u us l m h d))

  named_single : (a b : ℕ) (u : Tok) (l m : ℕ) → m ≤ top f → Before f (u ∷ []) → (c : Bool) → same (symbol_of u) s.Name ≡ c → Claim f EndsBlock is_last (named_high b) (u ∷ []) l m (named_low a (place (u ∷ f.cut) l m))
  named_single a b u l m h d false e = named_alike a b u [] l m h d (λ new. plain_continue u e new f.cut l m)
  named_single a b u l m h d true e =
      let q = place (u ∷ f.cut) l m in
      claim_if f EndsBlock is_last (named_high b) (u ∷ []) l m (sees_continue q) (word_low a q) (typed_low a q)
      (λ c. word_claim b u l m h e c (word_low a q) ((locals.word_local f.low low some_tails local a tree.Continue).takes q) ((word_goes a b tree.Continue).inside u [] l m h d))
      (λ _. typed_claim b u l m h e (typed_low a q) (typed_takes a q) ((typed_goes a b).inside u [] l m h d))

  named_inside : (a b : ℕ) (u : Tok) (us : List Tok) (l m : ℕ) → m ≤ top f → Before f (u ∷ us) → Claim f EndsBlock is_last (named_high b) (u ∷ us) l m (named_low a (place (u ∷ (us ++ f.cut)) l m))
  named_inside a b u [] l m h d = named_single a b u l m h d (same (symbol_of u) s.Name) refl
  named_inside a b u (w ∷ ws) l m h d = named_alike a b u (w ∷ ws) l m h d (λ new. two_continue u w (ws ++ new) (ws ++ f.cut) l m)

  name_goes : (a b : ℕ) → Goes f EndsBlock is_last never (code.name_statement f.low low a) (code.name_statement f.high high b)
  unfolding code.name_statement
  name_goes a b = record {
    idle = λ l m. let q = place f.cut l m in idle_if f is_last never (sees_continue q) (word_low a q) (typed_low a q) ((word_goes a b tree.Continue).idle l m) ((typed_goes a b).idle l m);
    inside = named_inside a b;
    far = λ p c. far_if f (sees_continue p) (word_low a p) (typed_low a p) ((word_goes a b tree.Continue).far p c) ((typed_goes a b).far p c);
  }

  -- ---- all statements

  while_gives : (inner : Readers) (set : Setting) (a : ℕ) → Gives is_last false (code.while_statement set inner a)
  unfolding code.while_statement
  while_gives inner set a = gives (read.expect set s.While) (λ _. gives (phrases.expression set inner) (λ c. gives (code.do_block set inner) (λ b. gives (read.span_from a) (λ i. gives_it (tree.the_stat i (tree.While c b)) refl))))

  repeat_gives : (inner : Readers) (set : Setting) (a : ℕ) → Gives is_last false (code.repeat_statement set inner a)
  unfolding code.repeat_statement
  repeat_gives inner set a = gives (read.expect set s.Repeat) (λ _. gives (phrases.block set inner) (λ b. gives (read.expect set s.Until) (λ _. gives (phrases.expression set inner) (λ c. gives (read.span_from a) (λ i. gives_it (tree.the_stat i (tree.Repeat b c)) refl)))))

  if_gives : (inner : Readers) (set : Setting) (a : ℕ) → Gives is_last false (code.if_statement set inner a)
  unfolding code.if_statement
  if_gives inner set a = gives (code.all_arms set inner) (λ x. gives (code.maybe_else set inner) (λ b. gives (read.expect set s.End) (λ _. gives (read.span_from a) (λ i. gives_it (tree.the_stat i (tree.If x b)) refl))))

  for_gives : (inner : Readers) (set : Setting) (a : ℕ) → Gives is_last false (code.for_statement set inner a)
  unfolding code.for_statement code.numeric_for code.generic_for
  for_gives inner set a =
      gives (read.expect set s.For) (λ _. gives (values.bind set inner) (λ x. gives_if (sees s.Assign)
      (gives (read.expect set s.Assign) (λ _. gives (code.range set inner) (λ r. gives (code.do_block set inner) (λ b. gives (read.span_from a) (λ i. gives_it (tree.the_stat i (tree.NumFor x r.first r.to r.step b)) refl)))))
      (gives (read.separated_from set (values.bind set inner) (x ∷ [])) (λ n. gives (read.expect set s.In) (λ _. gives (values.expressions set inner) (λ es. gives (code.do_block set inner) (λ b. gives (read.span_from a) (λ i. gives_it (tree.the_stat i (tree.GenFor (binds n) (exprs es) b)) refl))))))))

  function_gives : (inner : Readers) (set : Setting) (a : ℕ) → Gives is_last false (code.function_statement set inner a)
  unfolding code.function_statement
  function_gives inner set a = gives (read.expect set s.Function) (λ _. gives read.level (λ o. gives (code.path set inner) (λ w. gives (code.method_name set inner) (λ m. gives (set_level o) (λ _. gives (values.body set inner m.span) (λ b. gives (read.span_from a) (λ i. gives_it (tree.the_stat i (tree.FunctionStat w m.name b)) refl)))))))

  local_function_gives : (inner : Readers) (set : Setting) (a : ℕ) → Gives is_last false (code.local_function set inner a)
  unfolding code.local_function
  local_function_gives inner set a = gives (read.expect set s.Function) (λ _. gives start (λ c. gives (read.name set) (λ n. gives (read.span_from c) (λ j. gives (values.body set inner None) (λ b. gives (read.span_from a) (λ i. gives_it (tree.the_stat i (tree.LocalFunction (tree.the_bind n j tree.no_type) b)) refl))))))

  attributed_gives : (inner : Readers) (set : Setting) (a : ℕ) → Gives is_last false (code.attributed set inner a)
  unfolding code.attributed
  attributed_gives inner set a = gives (values.attributes set inner) (λ _. gives_if (sees s.Local) (gives (read.expect set s.Local) (λ _. local_function_gives inner set a)) (function_gives inner set a))

  local_gives : (inner : Readers) (set : Setting) (a : ℕ) → Gives is_last false (code.local_statement set inner a)
  unfolding code.local_statement code.local_names
  local_gives inner set a =
      gives (read.expect set s.Local) (λ _. gives_if (sees s.Function) (local_function_gives inner set a) (gives (read.separated set (values.bind set inner)) (λ n. gives (code.maybe_values set inner) (λ es. gives (read.span_from a) (λ i. gives_it (tree.the_stat i (tree.Local (binds n) es)) refl)))))

  return_gives : (inner : Readers) (set : Setting) (a : ℕ) → Gives is_last true (code.return_statement set inner a)
  unfolding code.return_statement
  return_gives inner set a = gives (read.expect set s.Return) (λ _. gives (code.maybe_expressions set inner) (λ es. gives (read.span_from a) (λ i. gives_it (tree.the_stat i (tree.Return es)) refl)))

  do_gives : (inner : Readers) (set : Setting) (a : ℕ) → Gives is_last false (code.do_statement set inner a)
  unfolding code.do_statement
  do_gives inner set a = gives (code.do_block set inner) (λ b. gives (read.span_from a) (λ i. gives_it (tree.the_stat i (tree.Do b)) refl))

  form_by_goes : (a b : ℕ) (x : Symbol) → Goes f EndsBlock is_last never (code.form_by f.low low a x) (code.form_by f.high high b x)
  form_by_goes a b s.Name = name_goes a b
  form_by_goes a b s.LeftParen = under f call_end (prefix_statement_reads f low high held local others a b).goes
  form_by_goes a b s.Do = told_last false (do_gives low f.low a) (do_gives high f.high b) (λ _ _. tt) (do_reads f low high held local a b).goes
  form_by_goes a b s.While = told_last false (while_gives low f.low a) (while_gives high f.high b) (λ _ _. tt) (while_reads f low high held local a b).goes
  form_by_goes a b s.Repeat = told_last false (repeat_gives low f.low a) (repeat_gives high f.high b) (λ _ z. z.value) (repeat_reads f low high held local a b).goes
  form_by_goes a b s.If = told_last false (if_gives low f.low a) (if_gives high f.high b) (λ _ _. tt) (if_reads f low high held local a b).goes
  form_by_goes a b s.For = told_last false (for_gives low f.low a) (for_gives high f.high b) (λ _ _. tt) (for_reads f low high held local a b).goes
  form_by_goes a b s.AtSign = told_last false (attributed_gives low f.low a) (attributed_gives high f.high b) (λ _ _. tt) (attributed_goes f low high held local others a b)
  form_by_goes a b s.Function = told_last false (function_gives low f.low a) (function_gives high f.high b) (λ _ _. tt) (function_statement_reads f low high held local others a b).goes
  form_by_goes a b s.Local =
      told_last false (local_gives low f.low a) (local_gives high f.high b) (λ _ z. record { one = z.value; comma = z.comma }) (local_reads f low high held local the_bodies generics a b).goes
  form_by_goes a b s.Return = told_last true (return_gives low f.low a) (return_gives high f.high b) (λ _ z. z) (return_goes f low high held local others a b)
  form_by_goes a b s.Break = under f (λ _ _. tt) (word_goes a b tree.Break)
  form_by_goes a b _ = refuses f EndsBlock is_last never

  abbrev seen_first : Place → ℕ × Symbol
  seen_first p = (start_of p, symbol p)

  statement_reads : Reads f EndsBlock is_last (λ zs. the_name f.at ∷ assigning zs) false never (code.statement f.low low) (code.statement f.high high)
  unfolding code.statement code.name_statement symbol start_of same symbol_of
  statement_reads = record {
    goes = by_peek f seen_first (λ x. code.form_by f.low low x.0 x.1) (λ x. code.form_by f.high high x.0 x.1) (λ u ts us l m. refl) (λ x. form_by_goes x.0 x.0 x.1);
    opens = opens_at f {close = λ zs. the_name f.at ∷ assigning zs} seen_first (λ x. code.form_by f.high high x.0 x.1) (f.at, s.Name) (λ zs l m _. refl) (named_opens (the_name f.at) refl f.at);
    late = λ zs fol b. let x : f.at ≤ f.at = omega arith in (x, (x, (x, b)));
  }

  -- ---- blocks

  abbrev ended : Statements → Bool
  ended given = given.ended

  another_goes : (x y : Statements) → Goes f EndsBlock ended never (code.another_statement f.low low x) (code.another_statement f.high high y)
  unfolding code.another_statement same symbol_of
  another_goes x y =
      (follow_by f {sh = is_last} {th = ended} (λ k. k) statement_reads (λ v w e.
      idle f (fitted f {G = EndsBlock} (λ _ z. z.semicolon) (eaten f s.Semicolon (the_sign f.at (codes ";")) refl refl)) (λ _ _.
      told f EndsBlock ended (record { found = x.found ++ v ∷ []; ended = is_last v }) (record { found = y.found ++ w ∷ []; ended = is_last w }) (is_last v) refl e) (λ _ z. z)) (λ _ z. z)).goes

  abbrev goes_on : Statements → Place → Bool
  goes_on given p = not given.ended && begins (symbol p)

  abbrev no_statements : Statements
  no_statements = record { found = []; ended = false }

  pub block_goes : Goes f EndsBlock any (λ z. z ≡ tt) (code.block_inside f.low low) (code.block_inside f.high high)
  unfolding code.block_inside symbol
  block_goes =
      let all = loop_reads f Statements Bool EndsBlock EndsBlock ended goes_on (code.another_statement f.low low) (code.another_statement f.high high)
      (λ x y e u ts us l m. ap (λ z. not z && begins (symbol_of u)) e) (λ x y _. another_goes x y) (λ y zs l m z. no_second (not y.ended) (begins (first_symbol zs)) z.statement) (λ x z. z)
      (λ x. (locals.another_local f.low low some_tails local x).takes) no_statements no_statements refl false refl in
      let some : Reads f EndsBlock any (λ zs. zs) tt (λ z. z ≡ tt) (read.repeat f.low goes_on (code.another_statement f.low low) no_statements) (read.repeat f.high goes_on (code.another_statement f.high high) no_statements) =
      record { goes = forget f (λ d _. refl) all.goes; opens = forget_opens f all.opens; late = all.late } in
      (idle f some (λ x y. given f EndsBlock (stats x.found) (stats y.found)) (λ _ z. z)).goes
