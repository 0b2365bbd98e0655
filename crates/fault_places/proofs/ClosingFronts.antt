-- What stands before a refused token of a text, or before its end, begins a module.
use Rattle.std.proofs.Common.{◌≡◌, ℕ, suc, ◌+◌, ◌≤◌, ◌<◌, List, [], ◌∷◌, ◌++◌, length, refl, sym, subst, arith, leb-true, le-leb, append_assoc}
use Rattle.std.specs.Prelude.{Ok, Err}
use Rattle.luau_lex.specs.Tokens.{Tok}
use Rattle.luau_grammar.specs.declared.error.ParseError.TheVariants.{Unexpected, UnexpectedEnd}
use Rattle.luau_grammar.specs.Modules.{IsBare, before, up_to, max_level}
use Rattle.luau_grammar.specs.Reading.{Setting, strictly}
use Rattle.luau_grammar.specs.ReadModules.{module_with, max_depth}
use Rattle.luau_grammar.proofs.Agreement.{Bounded}
use Rattle.luau_grammar.proofs.Families.{read_is_bare}
use Rattle.grammar_faults.specs.Fronts.{BeginFrom}
use Rattle.fault_places.specs.Faults.{IsFront, BeginBefore}
use Rattle.fault_places.proofs.Closing.{Frame, CutLate, BeforeOf, fault_of}
use Rattle.fault_places.proofs.ClosingReaders.{completed}

abbrev wide_level : ℕ
wide_level = max_level + 3

abbrev wide : List ℕ → Setting
wide text = record { rules = up_to wide_level; limit = wide_level; len = length text }

wide_bounded : (text : List ℕ) → Bounded (wide text)
wide_bounded text t at h = leb-true at wide_level h

module _ (text : List ℕ) (cut : List Tok) (bound at : ℕ) (late : CutLate bound cut) where
  abbrev frame : Frame
  frame = record {
    low = strictly text;
    high = wide text;
    cut = cut;
    bound = bound;
    at = at;
    bounded = λ t m h. leb-true m max_level h;
    room = (let x : max_level + 3 ≤ wide_level = omega arith in x);
    free = λ t m h. le-leb m wide_level h;
    calls = λ l t h. refl;
    calls_late = λ l t h. refl;
    late = late;
  }

before_token : (t : Tok) (ts us : List Tok) → BeginBefore t.span.start us → BeforeOf (t ∷ ts) us
before_token t ts [] h = tt
before_token t ts (u ∷ us) h = ((λ e. absurd (omega arith)), before_token t ts us h.1)

before_end : (us : List Tok) → BeforeOf [] us
before_end [] = tt
before_end (u ∷ us) = (tt, before_end us)

module _ (text : List ℕ) (cut : List Tok) (bound : ℕ) (late : CutLate bound cut) (last : Tok) where
  abbrev the_frame : Frame
  the_frame = frame text cut bound (last.span.start + 1) late

  front_of : (front : List Tok) → BeforeOf cut (front ++ last ∷ []) → module_with (strictly text) max_depth (before (front ++ last ∷ cut)) ≡ Err (fault_of (length text) cut) → IsFront front last
  front_of [] h e =
      let c = completed the_frame max_depth last [] h e in
      (wide_level, (c.rest, c.block, c.late, read_is_bare (wide text) (wide_bounded text) (suc max_depth) (last ∷ c.rest) c.block c.last c.reads))
  front_of (v ∷ vs) h e =
      let c = completed the_frame max_depth v (vs ++ last ∷ []) h
      (subst (λ z. module_with (strictly text) max_depth (before (v ∷ z)) ≡ Err (fault_of (length text) cut)) (sym (append_assoc vs (last ∷ []) cut)) e) in (
        wide_level,
        (
          c.rest,
          c.block,
          c.late,
          read_is_bare (wide text) (wide_bounded text) (suc max_depth) (v ∷ (vs ++ last ∷ c.rest)) c.block c.last
              (subst (λ z. module_with (wide text) (suc max_depth) (before (v ∷ z)) ≡ Ok (c.block, c.last)) (append_assoc vs (last ∷ []) c.rest) c.reads),
        ),
      )

pub before_a_token : (text : List ℕ) (front : List Tok) (last t : Tok) (behind : List Tok) → BeginBefore t.span.start (front ++ last ∷ []) → BeginFrom (t.span.start + 1) behind
    → module_with (strictly text) max_depth (before (front ++ last ∷ t ∷ behind)) ≡ Err (Unexpected t.span.start) → IsFront front last
before_a_token text front last t behind h l e =
    front_of text (t ∷ behind) (t.span.start + 1) (let x : t.span.start < t.span.start + 1 = omega arith in x, l) last front (before_token t behind (front ++ last ∷ []) h) e

pub before_the_end : (text : List ℕ) (front : List Tok) (last : Tok) → module_with (strictly text) max_depth (before (front ++ last ∷ [])) ≡ Err (UnexpectedEnd (length text)) → IsFront front last
before_the_end text front last e = front_of text [] 0 tt last front (before_end (front ++ last ∷ [])) e

-- ---- fronts within fronts

begin_less : (a b : ℕ) (ts : List Tok) → a ≤ b → BeginFrom b ts → BeginFrom a ts
begin_less a b [] h k = tt
begin_less a b (t ∷ ts) h k = ((let x : a ≤ t.span.start = omega arith in x), begin_less a b ts h k.1)

begin_more : (a : ℕ) (mid : List Tok) (last : Tok) (rest : List Tok) → BeginFrom a (mid ++ last ∷ []) → BeginFrom (last.span.start + 1) rest → BeginFrom a (mid ++ last ∷ rest)
begin_more a [] last rest h k = (h.0, begin_less a (last.span.start + 1) rest (omega arith) k)
begin_more a (t ∷ ts) last rest h k = (h.0, begin_more a ts last rest h.1 k)

pub shorter : (front mid : List Tok) (t last : Tok) → BeginFrom (t.span.start + 1) (mid ++ last ∷ []) → IsFront (front ++ t ∷ mid) last → IsFront front t
shorter front mid t last h k =
    (k.0, (mid ++ last ∷ k.1.0, k.1.1, begin_more (t.span.start + 1) mid last k.1.0 h k.1.2, subst (λ ts. IsBare (up_to k.0) ts k.1.1) (append_assoc front (t ∷ mid) (last ∷ k.1.0)) k.1.3))
