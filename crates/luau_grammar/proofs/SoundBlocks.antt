-- What the parsers of statements and blocks read is in the grammar.
use Rattle.std.proofs.Common.{◌≡◌, ℕ, Bool, true, false, not, ◌&&◌, ◌||◌, List, [], ◌∷◌, ◌++◌, bytes_eq, inl, inr, refl, sym, ◌∙◌, ap, ap₂, subst, append_assoc, append-nil}
use Rattle.std.specs.Prelude.{codes}
use Rattle.std.proofs.lemmas.Bool.{and_parts}
use Rattle.luau_tree.specs.Tree.{Block, Stat, StatKind}
use Rattle.luau_tree.specs.Tree as tree
use Rattle.luau_tree.specs.View.{stats}
use Rattle.luau_grammar.specs.declared.symbol.Symbol.{Symbol}
use Rattle.luau_grammar.specs.declared.symbol.Symbol.TheVariants as s
use Rattle.luau_grammar.specs.Symbols.{same}
use Rattle.luau_grammar.specs.Places.{Place, Rules, symbol, symbol_behind, sees_behind, sees_word, first_bytes, start_of, Takes}
use Rattle.luau_grammar.specs.Phrases.{Phrases}
use Rattle.luau_grammar.specs.Statements.{begins, closes, is_last, sees_continue, sees_type, sees_export, sees_statement_word, second_bytes, IsStatement, IsSemicolon, IsBlock, IsBlockBehind}
use Rattle.luau_grammar.specs.Reading.{Setting, Readers, and_then, next}
use Rattle.luau_grammar.specs.ReadStatements as code
use Rattle.luau_grammar.proofs.Agreement.{Sound, SoundPhrases}
use Rattle.luau_grammar.proofs.SoundLists.{repeat_sound}
use Rattle.luau_grammar.proofs.Primitives.{Reads, reads_ok, reads_err, reads_if, reads_then, symbol_sees, sees_by, IsEaten, takes_behind, name_token, word_not_name, next_seen, next_word, eat_sound}
use Rattle.luau_grammar.proofs.SoundStatements.{prefix_statement_sound, do_sound, while_sound, repeat_statement_sound, if_sound, for_sound}
use Rattle.luau_grammar.proofs.SoundNamed.{function_sound, local_sound, attributed_sound, type_sound, return_sound}
use Rattle.luau_grammar.proofs.StatementParts.{SoundParts}

none_of : (x y z : Bool) → x ≡ false → y ≡ false → z ≡ false → (x || (y || z)) ≡ false
none_of x y z e f g = ap₂ (λ a b. a || b) e (ap₂ (λ a b. a || b) f g)

-- behind `export` stands `type`
type_behind : (rules : Rules) (p a : Place) → Takes rules s.Name p a → sees_export p ≡ true → sees_word (codes "type") a ≡ true
unfolding sees_word Takes
type_behind rules p a n h =
    let behind = (and_parts (sees_word (codes "export") p) (sees_behind s.Name p && bytes_eq (second_bytes p.ahead) (codes "type")) h).1 in
    ap₂ (λ x y. x && bytes_eq y (codes "type")) (sym (takes_behind rules p a s.Name s.Name n))
    (ap (λ (z : Place). first_bytes z.ahead) n.2.3 ∙ sym (ap second_bytes n.2.1))
    ∙ behind

module _ (set : Setting) (inner : Phrases) (given : Readers) (held : SoundPhrases set inner given) (parts : SoundParts set inner given) where
  break_sound : (p : Place) → symbol p ≡ s.Break
      → Reads (IsStatement set.rules inner p) (code.word_statement set given (start_of p) tree.Break p)
  unfolding code.word_statement
  break_sound p e = reads_then (next_seen set s.Break p (symbol_sees s.Break p e)) (λ q t n. reads_ok _ (refl, n))

  continue_sound : (p : Place) → sees_continue p ≡ true
      → Reads (IsStatement set.rules inner p) (code.word_statement set given (start_of p) tree.Continue p)
  unfolding code.word_statement
  continue_sound p e =
      let word = (and_parts (sees_word (codes "continue") p) (closes (symbol_behind p)) e).0 in
      reads_then (next_word set (codes "continue") p word) (λ q t n. reads_ok _ (refl, (e, n)))

  exported_sound : (p : Place) → sees_export p ≡ true
      → Reads (IsStatement set.rules inner p) (and_then (next set p) (λ _. code.type_statement set given (start_of p) true))
  exported_sound p e =
      let word = (and_parts (sees_word (codes "export") p) (sees_behind s.Name p && bytes_eq (second_bytes p.ahead) (codes "type")) e).0 in
      reads_then (next_word set (codes "export") p word) (λ a t n.
      let name = name_token set.rules p a (codes "export") n in
      type_sound set inner given held parts p a true (type_behind set.rules p a name e) (λ b m. (a, e, name, m)))

  name_statement_sound : (p : Place) → Reads (IsStatement set.rules inner p) (code.name_statement set given (start_of p) p)
  unfolding code.name_statement
  name_statement_sound p =
      reads_if (sees_continue p) (λ e. continue_sound p e) (λ c.
      reads_if (sees_type p)
      (λ e. type_sound set inner given held parts p p false
      (and_parts (sees_word (codes "type") p) (sees_behind s.Name p || sees_behind s.Function p) e).0 (λ b n. (e, n)))
      (λ t.
      reads_if (sees_export p) (λ e. exported_sound p e) (λ x.
      prefix_statement_sound set inner given held parts p (none_of (sees_continue p) (sees_type p) (sees_export p) c t x))))

  -- a word of a statement is a name
  no_word : (p : Place) (x : Symbol) → symbol p ≡ x → same x s.Name ≡ false → sees_statement_word p ≡ false
  no_word p x e n =
      let no = λ (word : List ℕ). word_not_name x p word e n in
      rw (no (codes "continue"), no (codes "type"), no (codes "export")) refl

  form_sound : (p : Place) (x : Symbol) → symbol p ≡ x → Reads (IsStatement set.rules inner p) (code.form_by set given (start_of p) x p)
  unfolding same
  form_sound p s.Name e = name_statement_sound p
  form_sound p s.LeftParen e = prefix_statement_sound set inner given held parts p (no_word p s.LeftParen e refl)
  form_sound p s.Do e = do_sound set inner given held parts p
  form_sound p s.While e = while_sound set inner given held parts p
  form_sound p s.Repeat e = repeat_statement_sound set inner given held parts p
  form_sound p s.If e = if_sound set inner given held parts p
  form_sound p s.For e = for_sound set inner given held parts p
  form_sound p s.AtSign e = attributed_sound set inner given held parts p
  form_sound p s.Function e = function_sound set inner given held parts 0 p p (sees_by s.AtSign p e refl, refl)
  form_sound p s.Local e = local_sound set inner given held parts p (sees_by s.AtSign p e refl)
  form_sound p s.Return e = return_sound set inner given held parts p
  form_sound p s.Break e = break_sound p e
  form_sound p x e = reads_err _

  statement_sound : (p : Place) → Reads (IsStatement set.rules inner p) (code.statement set given p)
  unfolding code.statement
  statement_sound p = form_sound p (symbol p) refl

  semicolon : (p q : Place) (b : Bool) → IsEaten set.rules s.Semicolon p q b → IsSemicolon set.rules inner p q
  semicolon p q true h = inl h
  semicolon p q false h = inr h

  -- one statement more
  abbrev OneStatement : code.Statements → Place → Place → code.Statements → Type 0
  OneStatement x p q y =
      (st : Stat) × (a : Place) × (y ≡ record { found = x.found ++ st ∷ []; ended = is_last st })
      × IsStatement set.rules inner p a st × IsSemicolon set.rules inner a q

  another_sound : (x : code.Statements) → Sound (OneStatement x) (code.another_statement set given x)
  unfolding code.another_statement
  another_sound x p =
      reads_then (statement_sound p) (λ a st h.
      reads_then (eat_sound set s.Semicolon a) (λ q b k. reads_ok _ (st, a, refl, h, semicolon a q b k)))

  behind_end : (ended : Bool) (p : Place) → (not ended && begins (symbol p)) ≡ false → IsBlockBehind set.rules inner ended p p tree.no_stats
  behind_end true p e = refl
  behind_end false p e = (e, refl)

  not_ended : (ended b : Bool) → (not ended && b) ≡ true → ended ≡ false
  not_ended false b h = refl
  not_ended true b h = absurd (cc)

  -- statements that stand behind those that were found
  abbrev AreBehind : code.Statements → Place → Place → code.Statements → Type 0
  AreBehind x p q z = (ys : List Stat) × (z.found ≡ x.found ++ ys) × IsBlockBehind set.rules inner x.ended p q (stats ys)

  stopped : (x : code.Statements) (p : Place) → code.goes_statements set given x p ≡ false → AreBehind x p p x
  stopped x p e = ([], sym (append-nil x.found), behind_end x.ended p e)

  one_more : (x y z : code.Statements) (p b q : Place) → code.goes_statements set given x p ≡ true → OneStatement x p b y → AreBehind y b q z
      → AreBehind x p q z
  one_more x y z p b q go h k =
      let behind = subst (λ (w : code.Statements). IsBlockBehind set.rules inner w.ended b q (stats k.0)) h.2 k.2 in (
        h.0 ∷ k.0,
        k.1 ∙ ap (λ (w : code.Statements). w.found ++ k.0) h.2 ∙ append_assoc x.found (h.0 ∷ []) k.0,
        subst (λ e. IsBlockBehind set.rules inner e p q (tree.more_stats h.0 (stats k.0))) (sym (not_ended x.ended (begins (symbol p)) go))
            (h.1, b, h.3, h.4, behind),
      )

  whole : (p q : Place) (ys : List Stat) → IsBlockBehind set.rules inner false p q (stats ys) → IsBlock set.rules inner p q (stats ys)
  whole p q [] h = h
  whole p q (y ∷ ys) h = h

  pub block_sound : Sound (IsBlock set.rules inner) (code.block_inside set given)
  unfolding code.block_inside
  block_sound p =
      reads_then
      (repeat_sound set (code.goes_statements set given) (code.another_statement set given) OneStatement AreBehind stopped one_more another_sound
      (record { found = []; ended = false }) p)
      (λ q all h. reads_ok _ (subst (λ zs. IsBlock set.rules inner p q (stats zs)) (sym h.1) (whole p q h.0 h.2)))
