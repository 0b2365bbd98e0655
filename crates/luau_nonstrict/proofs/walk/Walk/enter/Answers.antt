use Rattle.std.proofs.Common.{sym, subst, string_bytes}
use Rattle.luau_nonstrict.specs.Visible.{IsName}
use Rattle.luau_nonstrict.proofs.Shown.{after_slash-IsName}
use Rattle.luau_nonstrict.proofs.walk.Walk.enter.Goals as goal

pub meet-requires-clause-name : goal.meet-requires-clause-name
meet-requires-clause-name g c = subst IsName (sym c.file_name.ensures) (after_slash-IsName (string_bytes c.in_ok-entry.entry.path))
