-- No `break` and no `continue` stands outside the loops of a module's own block.
use Rattle.std.proofs.Common.{◌≡◌, ℕ, false, refl, subst}
use Rattle.luau_tree.specs.declared.position.Span.{Span}
use Rattle.luau_tree.specs.Tree.{Block, no_stats, more_stats, Stat, the_stat, StatKind, Assign, Compound, CallStat, Do, While, Repeat, If, NumFor, GenFor, FunctionStat, LocalFunction, Local, TypeAlias, TypeFunction, Return, Break, Continue, Arms, no_arms, more_arms, MaybeBlock, no_block, a_block}
use Rattle.luau_scope.specs.Found.{Part, ◌then◌, Around, Loop, NoLoop}
use Rattle.luau_scope.specs.Finds as finds
use Rattle.luau_scope.specs.Finds.{in_scope, behind, of_break, of_continue}
use Rattle.report_rules.specs.Effects.{breaks, breaks_in, breaks_block, breaks_arms, breaks_maybe}
use Rattle.module_reading.proofs.Lists.{or_neither}
use Rattle.reading_fits.proofs.Told.{Ground, Told, first, second}

no_break : (ground : Ground) (loop : Loop) (span : Span) (n : ℕ) → loop ≡ NoLoop → Told ground n (of_break loop span n) → ⊥
no_break ground loop span n e t = (subst (λ (l : Loop). Told ground n (of_break l span n)) e t).each

no_continue : (ground : Ground) (loop : Loop) (span : Span) (n : ℕ) → loop ≡ NoLoop → Told ground n (of_continue loop span n) → ⊥
no_continue ground loop span n e t = (subst (λ (l : Loop). Told ground n (of_continue l span n)) e t).each

mutual
  pub block_free : (ground : Ground) (a : Around) (x : Block) (n : ℕ) → a.loop ≡ NoLoop → Told ground n (finds.of_block a x n) → breaks_block x ≡ false
  block_free ground a no_stats n e t = refl
  block_free ground a (more_stats s rest) n e t =
      let p : Part = finds.of_stat a s in
      let q : Part = finds.of_block (in_scope a (behind a s n)) rest in
      or_neither (breaks s) (breaks_block rest) (stat_free ground a s n e (first ground n p q t)) (block_free ground (in_scope a (behind a s n)) rest _ e (second ground n p q t))

  stat_free : (ground : Ground) (a : Around) (s : Stat) (n : ℕ) → a.loop ≡ NoLoop → Told ground n (finds.of_stat a s n) → breaks s ≡ false
  stat_free ground a (the_stat span kind) n e t = kind_free ground a span kind n e t

  kind_free : (ground : Ground) (a : Around) (span : Span) (kind : StatKind) (n : ℕ) → a.loop ≡ NoLoop → Told ground n (finds.of_stat_kind a span kind n) → breaks_in kind ≡ false
  kind_free ground a span (Do body) n e t = block_free ground a body n e t
  kind_free ground a span (If arms last) n e t =
      let p : Part = finds.of_arms a arms in
      let q : Part = finds.of_maybe_block a last in
      or_neither (breaks_arms arms) (breaks_maybe last) (arms_free ground a arms n e (first ground n p q t)) (maybe_free ground a last _ e (second ground n p q t))
  kind_free ground a span Break n e t = absurd (no_break ground a.loop span n e t)
  kind_free ground a span Continue n e t = absurd (no_continue ground a.loop span n e t)
  kind_free ground a span (Assign targets values) n e t = refl
  kind_free ground a span (Compound target op v) n e t = refl
  kind_free ground a span (CallStat v) n e t = refl
  kind_free ground a span (While cond body) n e t = refl
  kind_free ground a span (Repeat body cond) n e t = refl
  kind_free ground a span (NumFor b from to by body) n e t = refl
  kind_free ground a span (GenFor bs values body) n e t = refl
  kind_free ground a span (FunctionStat path method b) n e t = refl
  kind_free ground a span (LocalFunction name b) n e t = refl
  kind_free ground a span (Local bs values) n e t = refl
  kind_free ground a span (TypeAlias exported name generics typ) n e t = refl
  kind_free ground a span (TypeFunction exported name b) n e t = refl
  kind_free ground a span (Return values) n e t = refl

  arms_free : (ground : Ground) (a : Around) (x : Arms) (n : ℕ) → a.loop ≡ NoLoop → Told ground n (finds.of_arms a x n) → breaks_arms x ≡ false
  arms_free ground a no_arms n e t = refl
  arms_free ground a (more_arms cond body rest) n e t =
      let p : Part = finds.of_expr a cond in
      let q : Part = finds.of_block a body in
      let r : Part = finds.of_arms a rest in
      let u = second ground n p (q then r) t in
      or_neither (breaks_block body) (breaks_arms rest) (block_free ground a body _ e (first ground _ q r u)) (arms_free ground a rest _ e (second ground _ q r u))

  maybe_free : (ground : Ground) (a : Around) (x : MaybeBlock) (n : ℕ) → a.loop ≡ NoLoop → Told ground n (finds.of_maybe_block a x n) → breaks_maybe x ≡ false
  maybe_free ground a no_block n e t = refl
  maybe_free ground a (a_block body) n e t = block_free ground a body n e t
