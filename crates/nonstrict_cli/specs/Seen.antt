-- What the code's own types stand for.
use Rattle.std.specs.Prelude.{ℕ, List}
use Rattle.nonstrict_cli.specs.declared.form.Argument.{Argument}
use Rattle.nonstrict_cli.specs.Form.{offsets_at}

-- where an argument that was read is reported
abbrev pub reported_at : Argument → List ℕ
reported_at a = offsets_at a.offset a.fails
