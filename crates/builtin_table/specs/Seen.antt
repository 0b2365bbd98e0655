-- A declaration as plain data.
use Rattle.builtin_table.specs.Standard.{Declared}
use Rattle.builtin_table.specs.declared.table.Declaration.{Declaration}

abbrev pub seen : Declaration → Declared
seen d = record { params = d.params.now; rest = d.rest; results = d.results.now; more = d.more; checked = d.checked; quiet = d.quiet }
