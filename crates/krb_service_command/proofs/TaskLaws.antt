-- What `accept` answers to an input as a new service.
use Rattle.std.proofs.Common.{◌≡◌, ◌⊎◌, ◌++◌, ℕ, ℤ, List, [], Option, Result, Ok, Err, inl, inr, refl, subst}
use Rattle.std.specs.Prelude.{OnErr}
use Rattle.krb_replay.specs.Stamp.{Stamp}
use Rattle.krb_keytab.specs.Entry.{KeytabEntry}
use Rattle.krb_ap.specs.Setup.{Setup}
use Rattle.krb_service_command.specs.Answering.{AnswersAll, AnswersBeginning, AnswersWhole, BecomeInTurn, last_line}
use Rattle.krb_service_command.specs.AnswerEnd.{named}
use Rattle.krb_service_command.specs.Explaining.{IsServedBy}
use Rattle.krb_service_command.specs.Inner.Task.{AnswersCame, AnswersInput, AreEntriesOf, BeginsInput, Serves}
use Rattle.krb_service_command.specs.declared.accept.AnswerOptions.{AnswerOptions}
use Rattle.krb_service_command.specs.declared.fault.ServiceFault.{ServiceFault}
use Rattle.krb_service_command.specs.declared.fault.ServiceFault.TheVariants.{Input, Write, OutOfMemory}
use Rattle.krb_service_command.specs.declared.task.AcceptTask.{AcceptTask}
use Rattle.krb_service_command.proofs.GoingLaws.{all_begun}

begun_of_came : {options : AnswerOptions} {setup : Setup} {input : List ℕ} {unread : Option (List ℕ)} {old_failures new_failures : ℕ} {Old New : Option (List ℕ)}
    → AnswersCame options setup input unread old_failures new_failures Old New → BeginsInput options setup input Old New
begun_of_came {Old = Old} {New = New} it = record {
  taken = it.lines;
  outcomes = it.outcomes;
  end = it.end;
  takes = record {
    came = it.came;
    left = it.left;
    lines = it.lines;
    rest = it.rest;
    input_is = it.input_is;
    parts = it.parts;
    taken_are = inl refl;
  };
  become = it.become;
  printed = all_begun Old New it.outcomes it.printed;
}

-- what holds of a new service as it is asked for
pub serves : (task : AcceptTask) (from : Option (List ℕ)) (Holds : AnswerOptions → Setup → Type 0) (entries served : List KeytabEntry) (options : AnswerOptions)
    → AreEntriesOf from entries → IsServedBy task.only entries served → options.form ≡ task.form → named options.service ≡ task.service
    → Holds options (record { entries = served; skew = task.times.skew; start = task.times.start }) → Serves task from Holds
serves task from Holds entries served options are serving form service holds = record {
  entries = entries;
  options = options;
  setup = record { entries = served; skew = task.times.skew; start = task.times.start };
  keytab = are;
  served = serving;
  skew = refl;
  start = refl;
  form = form;
  service = service;
  holds = holds;
}

module _ {options : AnswerOptions} {here setup : Setup} {input : List ℕ} {Old New : Option (List ℕ)} {Has : Stamp → Type 0} {latest : Option ℤ} (is : here ≡ setup) where
  -- all its lines are answered
  pub all_of_input : (status : ℕ) → AnswersAll options here [] input status Old New Has latest → AnswersInput options setup input status Old New
  all_of_input status all = record {
    lines = all.lines;
    rest = all.rest;
    outcomes = all.outcomes;
    end = all.end;
    parts = all.parts;
    become = subst (λ (s : Setup). BecomeInTurn options s [] (all.lines ++ last_line all.rest) all.outcomes all.end) is all.become;
    printed = all.printed;
    status_is = all.status_is;
  }

  begun_of_input : AnswersBeginning options here [] input Old New Has latest → BeginsInput options setup input Old New
  begun_of_input begun = record {
    taken = begun.taken;
    outcomes = begun.outcomes;
    end = begun.end;
    takes = begun.takes;
    become = subst (λ (s : Setup). BecomeInTurn options s [] begun.taken begun.outcomes begun.end) is begun.become;
    printed = begun.printed;
  }

  -- the whole lines of what came are answered
  came_of_input : {unread : Option (List ℕ)} {old_failures new_failures : ℕ} → AnswersWhole options here [] input unread old_failures new_failures Old New Has latest
      → AnswersCame options setup input unread old_failures new_failures Old New
  came_of_input whole = record {
    came = whole.came;
    left = whole.left;
    lines = whole.lines;
    rest = whole.rest;
    outcomes = whole.outcomes;
    end = whole.end;
    input_is = whole.input_is;
    unread_is = whole.unread_is;
    why = whole.why;
    parts = whole.parts;
    become = subst (λ (s : Setup). BecomeInTurn options s [] whole.lines whole.outcomes whole.end) is whole.become;
    printed = whole.printed;
  }

  pub input_came : {unread : Option (List ℕ)} {old_failures new_failures : ℕ} (result : Result ℕ ServiceFault)
      → (result ≡ Err Input → AnswersWhole options here [] input unread old_failures new_failures Old New Has latest)
      → result ≡ Err Input → AnswersCame options setup input unread old_failures new_failures Old New
  input_came result whole met = came_of_input (whole met)

  -- some of its lines were taken, and the answers were printed up to some byte of the last
  pub input_begun : {unread : Option (List ℕ)} {old_failures new_failures : ℕ} (result : Result ℕ ServiceFault)
      → (result ≡ Err Input → AnswersWhole options here [] input unread old_failures new_failures Old New Has latest)
      → ((result ≡ Err Write) ⊎ (result ≡ Err OutOfMemory) → AnswersBeginning options here [] input Old New Has latest)
      → OnErr result (BeginsInput options setup input Old New)
  input_begun (Ok status) whole begun = tt
  input_begun (Err Input) whole begun = begun_of_came (came_of_input (whole refl))
  input_begun (Err Write) whole begun = begun_of_input (begun (inl refl))
  input_begun (Err OutOfMemory) whole begun = begun_of_input (begun (inr refl))
