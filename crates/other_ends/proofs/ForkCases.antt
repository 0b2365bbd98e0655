-- A parser that is chosen by what a place says depends on what it takes.
use Rattle.std.proofs.Common.{ℕ, subst}
use Rattle.luau_grammar.specs.Places.{Place}
use Rattle.luau_grammar.specs.Reading.{Parser}
use Rattle.other_ends.proofs.Fork.{Fork, Near, Forked, Peeks}

pub by_symbol : {A C : Type 0} {w : Fork} {k : ℕ} (c : Place → C) (g : C → Parser A) → Peeks w c → ((x : C) → Forked w k (g x)) → Forked w k (λ p. g (c p) p)
by_symbol {w = w} c g t h = record {
  near = λ p q i. subst (λ z. Near w (g (c p) p) (g z q)) (t p q i) ((h (c p)).near p q i);
  one = λ b p l. (h (c p)).one b p l;
  takes = λ p. (h (c p)).takes p;
}
