-- How a run ends that writes nothing, and what a checked folder can't end with.
use Rattle.std.proofs.Common.{◌≡◌, ℕ, List, [], Option, None, Some, IfSome, ap, sym, subst, ◌∙◌, append-nil, refl, inl, inr, Result, Err}
use Rattle.outside.specs.Contents.{Contents}
use Rattle.outside.specs.Written.{Appends}
use Rattle.nonstrict_cli.specs.declared.status.Limit.{Limit}
use Rattle.nonstrict_cli.specs.declared.status.Status.{Status}
use Rattle.nonstrict_cli.specs.declared.status.Status.TheVariants as status
use Rattle.nonstrict_cli.specs.declared.stop.Stop.{Stop}
use Rattle.nonstrict_cli.specs.declared.stop.Stop.TheVariants as stop
use Rattle.nonstrict_cli.specs.declared.answer.Answer.{Answer}
use Rattle.nonstrict_cli.specs.Answer.{Answers, StopsWith}
use Rattle.nonstrict_cli.specs.Command.{command}
use Rattle.nonstrict_cli.specs.Folder.{limit_of}
use Rattle.nonstrict_cli.specs.Output.{Output, output, output_for, output_within}
use Rattle.nonstrict_cli.specs.Ending.{EndsWell}
use Rattle.nonstrict_cli.specs.Status.{IsAnswer, IsChecked, IsSilent}
use Rattle.nonstrict_cli.specs.Stop.{status_after}

-- a checked folder doesn't end with the words, and so on
pub not_usage : (s : Status) → IsChecked s → s ≡ status.Usage → ⊥
not_usage s checked e = subst IsChecked e checked

pub not_read_fault : (s : Status) → IsChecked s → s ≡ status.ReadFault → ⊥
not_read_fault s checked e = subst IsChecked e checked

pub not_write_fault : (s : Status) → IsChecked s → s ≡ status.WriteFault → ⊥
not_write_fault s checked e = subst IsChecked e checked

pub not_silent : (s : Status) → IsChecked s → IsSilent s → ⊥
not_silent status.Clean checked h = h
not_silent status.Reports checked h = h
not_silent status.Refused checked h = h
not_silent status.Usage checked h = checked
not_silent (status.TooLarge limit) checked h = checked
not_silent status.ReadFault checked h = checked
not_silent status.NoMemory checked h = checked
not_silent status.WriteFault checked h = checked

-- a folder that passes a limit gives no output
pub stops_with : (told : Option Contents) (words : List (List ℕ)) (folder : List ℕ) (limit : Limit) → Some folder ≡ command words → IfSome told (λ contents. limit_of (contents folder) ≡ Some limit) → IfSome told (StopsWith words limit)
stops_with None words folder limit named passed = tt
stops_with (Some contents) words folder limit named passed =
    ap (λ o. output_for o contents) (sym named) ∙ ap (λ l. output_within l (contents folder)) passed

-- the output of a run that ends so
ended_output : (words : List (List ℕ)) (told : Option Contents) (s : Stop) → (s ≡ stop.Usage → command words ≡ None) → ((limit : Limit) → s ≡ stop.TooLarge limit → IfSome told (StopsWith words limit)) → IsAnswer (status_after s) → IfSome told (λ contents. output words contents ≡ record { bytes = []; status = status_after s })
ended_output words None s usage large a = tt
ended_output words (Some contents) stop.Usage usage large a = ap (λ o. output_for o contents) (usage refl)
ended_output words (Some contents) (stop.TooLarge limit) usage large a = large limit refl
ended_output words (Some contents) stop.ReadFault usage large a = absurd a
ended_output words (Some contents) stop.NoMemory usage large a = absurd a

pub nothing_appended : (w : Option (List ℕ)) → Appends w w []
nothing_appended None = tt
nothing_appended (Some now) = sym (append-nil now)

pub ended_status : (words : List (List ℕ)) (told : Option Contents) (s : Stop) → (s ≡ stop.Usage → command words ≡ None) → ((limit : Limit) → s ≡ stop.TooLarge limit → IfSome told (StopsWith words limit)) → IsAnswer (status_after s) → IfSome told (λ contents. status_after s ≡ (output words contents).status)
ended_status words None s usage large a = tt
ended_status words (Some contents) s usage large a = ap (λ (o : Output). o.status) (sym (ended_output words (Some contents) s usage large a))

pub ended_bytes : (words : List (List ℕ)) (told : Option Contents) (s : Stop) (w : Option (List ℕ)) → (s ≡ stop.Usage → command words ≡ None) → ((limit : Limit) → s ≡ stop.TooLarge limit → IfSome told (StopsWith words limit)) → IsAnswer (status_after s) → IfSome told (λ contents. Appends w w (output words contents).bytes)
ended_bytes words None s w usage large a = tt
ended_bytes words (Some contents) s w usage large a = subst (λ (o : Output). Appends w w o.bytes) (sym (ended_output words (Some contents) s usage large a)) (nothing_appended w)

-- a run that stops before the first write ends well, unless the folder failed
pub stop_ends_well : {A : Type 0} (written : A → Option (List ℕ)) (words : List (List ℕ)) (told : Option Contents) (s : Stop) (sink : A) (TreeRose SinkRose : Type 0) → (s ≡ stop.Usage → command words ≡ None) → ((limit : Limit) → s ≡ stop.TooLarge limit → IfSome told (StopsWith words limit)) → (s ≡ stop.ReadFault → TreeRose) → IfSome told (λ contents. ¬ TreeRose → ¬ SinkRose → EndsWell written sink sink (status_after s) (output words contents))
stop_ends_well written words None s sink TreeRose SinkRose usage large fault = tt
stop_ends_well written words (Some contents) stop.Usage sink TreeRose SinkRose usage large fault = λ whole_tree whole_sink. inr (ended_status words (Some contents) stop.Usage usage large tt, ended_bytes words (Some contents) stop.Usage (written sink) usage large tt)
stop_ends_well written words (Some contents) (stop.TooLarge limit) sink TreeRose SinkRose usage large fault = λ whole_tree whole_sink. inr (ended_status words (Some contents) (stop.TooLarge limit) usage large tt, ended_bytes words (Some contents) (stop.TooLarge limit) (written sink) usage large tt)
stop_ends_well written words (Some contents) stop.ReadFault sink TreeRose SinkRose usage large fault = λ whole_tree whole_sink. absurd (whole_tree (fault refl))
stop_ends_well written words (Some contents) stop.NoMemory sink TreeRose SinkRose usage large fault = λ whole_tree whole_sink. inl (refl, refl)

-- and so does one whose answer is written whole
pub answer_ends_well : {A : Type 0} (written : A → Option (List ℕ)) (words : List (List ℕ)) (told : Option Contents) (answer : Answer) (before after : A) (TreeRose SinkRose : Type 0) → IfSome told (Answers words answer) → Appends (written before) (written after) answer.text.items → IfSome told (λ contents. ¬ TreeRose → ¬ SinkRose → EndsWell written before after answer.status (output words contents))
answer_ends_well written words None answer before after TreeRose SinkRose answers whole = tt
answer_ends_well written words (Some contents) answer before after TreeRose SinkRose answers whole = λ whole_tree whole_sink. inr (answers.status, subst (λ (bytes : List ℕ). Appends (written before) (written after) bytes) answers.text whole)

-- an error is the same in another kind of result
pub err_over : {T U E : Type 0} (a b : E) → ◌≡◌ {A = Result T E} (Err a) (Err b) → ◌≡◌ {A = Result U E} (Err a) (Err b)
err_over a b e = let same : a ≡ b = cc in ap Err same

-- the text of an answer is that of the output
pub text_is_written : (words : List (List ℕ)) (told : Option Contents) (answer : Answer) (before after : Option (List ℕ)) → IfSome told (Answers words answer) → Appends before after answer.text.items → IfSome told (λ contents. Appends before after (output words contents).bytes)
text_is_written words None answer before after answers whole = tt
text_is_written words (Some contents) answer before after answers whole = subst (λ (bytes : List ℕ). Appends before after bytes) answers.text whole
