-- The start of a run, its end, and what the frame says of the whole.
use Rattle.std.proofs.Common.{ℕ, false, List, refl, arith}
use Rattle.luau_values.proofs.Public.{start_length, start_stands}
use Rattle.luau_run.specs.Program.{paths}
use Rattle.luau_run.specs.Machine.{Answer, State, Ran, Gave, Failed, Spent}
use Rattle.luau_run.specs.Layer.{Ending}
use Rattle.luau_run.specs.Run.{start, run, end_of}
use Rattle.luau_run.specs.Certain.{StaysAt, Certain}
use Rattle.run_frame.specs.Analysis.{Analysis}
use Rattle.run_frame.proofs.World.{World, no_world}
use Rattle.run_frame.proofs.Kept.{Doer, nobody}
use Rattle.run_frame.proofs.Fine.{Fine}
use Rattle.run_frame.proofs.Parts.{Ends}

-- where a run begins all is as it should be
pub fine_start : (an : Analysis) (steps : ℕ) (tape : List Answer) → Fine an no_world (start an.program steps tape)
fine_start an steps tape = record {
  owned = refl;
  ran = refl;
  older = λ c o e. cc;
  bound = tt;
  stand = λ c v e. cc;
  fields = start_stands (paths an.program);
  libraries = omega (arith, start_length (paths an.program));
  fixed = λ c o path v e g h. cc;
  closures = tt;
  loaded = tt;
  stays = tt;
  young = λ b l. refl;
}

-- however a part ends, what was logged stays at reports
pub ends_stays : (an : Analysis) (who : Doer) (w : World) (s : State) {A : Type 0} (P : A → State → Type 0) (r : Ran A) → Ends an who w s P r
    → StaysAt an.reports (end_of r).trace
ends_stays an who w s P (Gave x t) h = h.1.stays
ends_stays an who w s P (Failed t) h = h.1.stays
ends_stays an who w s P (Spent t) h = h

-- so a program is certain of which each run ends as the frame says
pub certain_of : (an : Analysis) (P : Ending → State → Type 0)
    → ((entry steps : ℕ) (tape : List Answer) → Ends an (nobody false) no_world (start an.program steps tape) P (run an.program entry steps tape))
    → Certain an.program an.reports
certain_of an P h entry steps tape = ends_stays an (nobody false) no_world (start an.program steps tape) P (run an.program entry steps tape) (h entry steps tape)
