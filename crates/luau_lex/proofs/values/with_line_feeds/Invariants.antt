use Rattle.std.proofs.Common.{◌≡◌, ◌++◌, drop}
use Rattle.luau_lex.specs.LineEnds.{with_line_feeds}
use Rattle.luau_lex.proofs.values.with_line_feeds.Given as goal

-- the bytes so far, and what the rest becomes
abbrev pub invariant-loop-i : goal.invariant-loop-i
invariant-loop-i l = l.out.items ++ with_line_feeds (drop l.i l.text) ≡ with_line_feeds l.text
