-- Tokens that the parser has passed are completed to a tree, by any rules on arguments.
use Rattle.std.proofs.Common.{◌≡◌, ℕ, suc, ◌+◌, ◌≤◌, ◌<◌, true, List, [], ◌∷◌, ◌++◌, refl, sym, ◌∙◌, ap, subst, arith, le-leb, append_assoc, append-nil}
use Rattle.std.specs.Prelude.{Ok, Err}
use Rattle.luau_tree.specs.Tree.{Block}
use Rattle.luau_lex.specs.Tokens.{Tok}
use Rattle.luau_grammar.specs.declared.error.ParseError.TheVariants.{Lex, NoMemory, Unexpected, UnexpectedEnd, AmbiguousCall, Nesting}
use Rattle.luau_grammar.specs.Modules.{before}
use Rattle.luau_grammar.specs.Reading.{Outcome}
use Rattle.luau_grammar.specs.ReadModules.{module_with}
use Rattle.luau_grammar.proofs.Families.{read_is_bare}
use Rattle.grammar_faults.specs.Fronts.{BeginFrom}
use Rattle.grammar_faults.proofs.Local.{Far}
use Rattle.fault_places.specs.Faults.{Begins, BeginBefore}
use Rattle.fault_places.proofs.Closing.{Frame, CutLate, BeforeOf, fault_of}
use Rattle.fault_places.proofs.ClosingReaders.{completed}
use Rattle.wider_rules.specs.Order.{Ordered}
use Rattle.wider_rules.proofs.Runs.{Test, rules_by, setting_by, bounded_by, run, stands_among}
use Rattle.wider_rules.proofs.Settled.{Settled, NoRule}
use Rattle.first_faults.proofs.Splits.{Split, split, ordered_behind, late_behind, early_before, has_late, begin_append, begin_front, before_append, before_cut, before_end}

module _ (c : Test) (len : ℕ) (t : Tok) (free : (l : ℕ) (u : Tok) → t.span.start + 1 ≤ u.span.start → c l u ≡ true) where
  abbrev pub Goes : List Tok → Type 0
  Goes front = (deep : ℕ) × Begins (rules_by c deep) front t

  module _ (more : ℕ) (cut : List Tok) (bound : ℕ) (late : CutLate bound cut) where
    abbrev frame : Frame
    frame = record {
      low = setting_by c len more;
      high = setting_by c len (more + 3);
      cut = cut;
      bound = bound;
      at = t.span.start + 1;
      bounded = bounded_by c len more;
      room = (let x : more + 3 ≤ more + 3 = omega arith in x);
      free = λ u m h. le-leb m (more + 3) h;
      calls = λ l u h. h;
      calls_late = λ l u e. free l u (omega arith);
      late = late;
    }

    closed : (front mid : List Tok) → BeforeOf cut (front ++ t ∷ mid) → BeginFrom (t.span.start + 1) mid → run c len more (front ++ t ∷ (mid ++ cut)) ≡ Err (fault_of len cut) → Goes front
    closed [] mid h b e =
        let k = completed frame (more + 2) t mid h e in (
          more + 3,
          (
            mid ++ k.rest,
            k.block,
            begin_append (t.span.start + 1) mid k.rest b k.late,
            read_is_bare (setting_by c len (more + 3)) (bounded_by c len (more + 3)) (suc (more + 2)) (t ∷ (mid ++ k.rest)) k.block k.last k.reads,
          ),
        )
    closed (v ∷ vs) mid h b e =
        let k = completed frame (more + 2) v (vs ++ t ∷ mid) h
        (subst (λ z. module_with (setting_by c len more) (more + 2) (before (v ∷ z)) ≡ Err (fault_of len cut)) (sym (append_assoc vs (t ∷ mid) cut)) e) in (
          more + 3,
          (
            mid ++ k.rest,
            k.block,
            begin_append (t.span.start + 1) mid k.rest b k.late,
            read_is_bare (setting_by c len (more + 3)) (bounded_by c len (more + 3)) (suc (more + 2)) (v ∷ (vs ++ t ∷ (mid ++ k.rest))) k.block k.last
                (subst (λ z. module_with (setting_by c len (more + 3)) (suc (more + 2)) (before (v ∷ z)) ≡ Ok (k.block, k.last)) (append_assoc vs (t ∷ mid) k.rest) k.reads),
          ),
        )

  module _ (front behind : List Tok) (order : Ordered (front ++ t ∷ behind)) where
    abbrev all : List Tok
    all = front ++ t ∷ behind

    at_token : (more n : ℕ) → run c len more all ≡ Err (Unexpected n) → t.span.start + 1 ≤ n → Split n behind → Goes front
    at_token more n e h k =
        closed more (k.token ∷ k.behind) (n + 1) ((let s = k.start in let x : k.token.span.start < n + 1 = omega arith in x), k.late) front k.front
        (before_cut k.token k.behind (front ++ t ∷ k.front)
        (subst (λ z. BeginBefore z (front ++ t ∷ k.front)) (sym k.start) (before_append n front t k.front (let x : t.span.start < n = omega arith in x) (early_before front t behind order) k.early)))
        (begin_front (t.span.start + 1) k.front (k.token ∷ k.behind) (subst (λ z. BeginFrom (t.span.start + 1) z) k.whole (late_behind front t behind order))) (subst (λ z. run c len more (front ++ t ∷ z) ≡ Err (Unexpected k.token.span.start)) k.whole (e ∙ ap (λ z. Err (Unexpected z)) (sym k.start)))

    finish : (more : ℕ) (o : Outcome Block) → run c len more all ≡ o → Far (t.span.start + 1) o → NoRule o → Goes front
    finish more (Ok x) e h k =
        (more, (behind, x.0, late_behind front t behind order, read_is_bare (setting_by c len more) (bounded_by c len more) (more + 2) all x.0 x.1 e))
    finish more (Err (Unexpected n)) e h k =
        at_token more n e h (split n behind (ordered_behind front t behind order) (has_late n front t behind order h (stands_among c c (λ _ _ z. z) len more (more + 2) (omega arith) all (Unexpected n) e)))
    finish more (Err (UnexpectedEnd n)) e h k =
        let s : n ≡ len = stands_among c c (λ _ _ z. z) len more (more + 2) (omega arith) all (UnexpectedEnd n) e in
        closed more [] 0 tt front behind (before_end all) (late_behind front t behind order)
        (subst (λ z. run c len more (front ++ t ∷ z) ≡ Err (UnexpectedEnd len)) (sym (append-nil behind)) (e ∙ ap (λ z. Err (UnexpectedEnd z)) s))
    finish more (Err (AmbiguousCall n)) e h k = absurd k
    finish more (Err (Nesting n)) e h k = absurd k
    finish more (Err (Lex d)) e h k = absurd k
    finish more (Err NoMemory) e h k = absurd k

    -- what the parser has passed, it completes
    pub goes : Settled c len (t.span.start + 1) all → Goes front
    goes k = finish k.more (run c len k.more all) refl k.far k.plain
