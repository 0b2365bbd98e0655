use Rattle.luau_run.proofs.Homes.{by_home, home_is_not_zero, not_itself}
use Rattle.luau_run.proofs.read_folders.homes_tell_modules.Goals as goal

pub returns-clause-home : goal.returns-clause-home
returns-clause-home c = by_home

pub returns-clause-not_zero : goal.returns-clause-not_zero
returns-clause-not_zero c = home_is_not_zero

pub returns-clause-not_itself : goal.returns-clause-not_itself
returns-clause-not_itself c = not_itself
