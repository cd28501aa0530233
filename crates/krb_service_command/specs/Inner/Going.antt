-- How far `accept` is with its input. A replay memory is read by two words: which stamps it has, and its latest moment.
use Rattle.std.specs.Prelude.{◌≡◌, ◌≢◌, ◌⊎◌, ◌<◌, ◌≤◌, max, ℕ, ℤ, List, [], ◌∷◌, ◌++◌, Option, length}
use Rattle.std.specs.Io.KnownBytes.{Appends, Consumes, IsAtEnd}
use Rattle.krb_file.specs.Flow.{counted}
use Rattle.krb_replay.specs.Stamp.{Stamp}
use Rattle.krb_ap.specs.Setup.{Setup, Arrival}
use Rattle.krb_ap.specs.Service.{Service, Stands}
use Rattle.krb_service_command.specs.Answering.{Becomes, BecomeInTurn, HasLines, PrintsBeginning, answer_line, answer_lines, input_limit, outcome_status, status_of_lines}
use Rattle.krb_call_lines.specs.Inner.Held.{Holds}
use Rattle.krb_service_command.specs.declared.accept.AnswerOptions.{AnswerOptions}
use Rattle.krb_service_command.specs.declared.accept.Session.{Session}
use Rattle.krb_service_command.specs.declared.answering.LineOutcome.{LineOutcome}

-- what it began with: how lines are answered, a service's setup and history, and what the sink had taken
pub record Start : Type 0 where
  pub options : AnswerOptions
  pub setup : Setup
  pub history : List Arrival
  pub taken : Option (List ℕ)

-- it answers by the same setup and options, and the exit status is still one that is known
pub record Stays {M : Type 0} (old new : Session) (service next : Service M) : Type 0 where
  pub setup : next.setup ≡ service.setup
  pub options : new.options ≡ old.options
  pub known : old.status ≤ 3 → new.status ≤ 3
  pub ran : old.status ≢ 2 → new.status ≢ 2

-- after a history this became of a line, and the service stands for the history then
pub record BecomesOf {M : Type 0} (has : M → Stamp → Type 0) (newest : M → Option ℤ) (options : AnswerOptions) (service next : Service M)
    (history : List Arrival) (line : List ℕ) (outcome : LineOutcome) : Type 0 where
  pub end : List Arrival
  pub becomes : Becomes options service.setup history line outcome end
  pub stands : Stands has newest next end

-- a line was answered
pub record Answered {M : Type 0} (has : M → Stamp → Type 0) (newest : M → Option ℤ) (old new : Session) (service next : Service M)
    (history : List Arrival) (line : List ℕ) (Old New : Option (List ℕ)) : Type 0 where
  pub outcome : LineOutcome
  pub of_line : BecomesOf has newest old.options service next history line outcome
  pub printed : Appends Old New (answer_line outcome)
  pub status_is : new.status ≡ max old.status (outcome_status outcome)

-- nothing was done, or its call was made, and a beginning of its answer was printed
pub record Begun {M : Type 0} (has : M → Stamp → Type 0) (newest : M → Option ℤ) (options : AnswerOptions) (service next : Service M)
    (history : List Arrival) (line : List ℕ) (Old New : Option (List ℕ)) : Type 0 where
  pub lines : List (List ℕ)
  pub lines_are : (lines ≡ []) ⊎ (lines ≡ line ∷ [])
  pub outcomes : List LineOutcome
  pub end : List Arrival
  pub become : BecomeInTurn options service.setup history lines outcomes end
  pub printed : PrintsBeginning Old New outcomes
  pub stands : Stands has newest next end

-- of the bytes that came the whole lines were answered, and the rest is held
pub record Going {M : Type 0} (has : M → Stamp → Type 0) (newest : M → Option ℤ) (start : Start) (came : List ℕ) (session : Session)
    (service : Service M) (taken : Option (List ℕ)) : Type 0 where
  pub rest : List ℕ
  pub holds : Holds session.part rest
  pub lines : List (List ℕ)
  pub outcomes : List LineOutcome
  pub end : List Arrival
  pub parts : HasLines came lines rest
  pub become : BecomeInTurn start.options start.setup start.history lines outcomes end
  pub printed : Appends start.taken taken (answer_lines outcomes)
  pub status_is : session.status ≡ status_of_lines outcomes
  pub stands : Stands has newest service end
  pub setup_is : service.setup ≡ start.setup
  pub options_are : session.options ≡ start.options

-- of the first of the bytes that came the whole lines were taken, and their answers were printed up to some byte of the last
pub record Stopped {M : Type 0} (has : M → Stamp → Type 0) (newest : M → Option ℤ) (start : Start) (came : List ℕ) (service : Service M)
    (taken : Option (List ℕ)) : Type 0 where
  pub first : List ℕ
  pub left : List ℕ
  pub lines : List (List ℕ)
  pub rest : List ℕ
  pub outcomes : List LineOutcome
  pub end : List Arrival
  pub came_is : came ≡ first ++ left
  pub parts : HasLines first lines rest
  pub become : BecomeInTurn start.options start.setup start.history lines outcomes end
  pub printed : PrintsBeginning start.taken taken outcomes
  pub stands : Stands has newest service end
  pub setup_is : service.setup ≡ start.setup

-- bytes came from a source, and this is how far that got
pub record Reached {M : Type 0} (has : M → Stamp → Type 0) (newest : M → Option ℤ) (start : Start) (From To : Option (List ℕ)) (count : ℕ)
    (session : Session) (service : Service M) (taken : Option (List ℕ)) : Type 0 where
  pub came : List ℕ
  pub consumed : Consumes From To came
  pub counted : length came ≡ count
  pub going : Going has newest start came session service taken

-- all that came, to the source's end
pub record ReachedEnd {M : Type 0} (has : M → Stamp → Type 0) (newest : M → Option ℤ) (start : Start) (From To : Option (List ℕ))
    (session : Session) (service : Service M) (taken : Option (List ℕ)) : Type 0 where
  pub count : ℕ
  pub reached : Reached has newest start From To count session service taken
  pub end : IsAtEnd To
  pub limit : count < input_limit

-- until a read failed, or the limit was there
pub record ReachedInput {M : Type 0} (has : M → Stamp → Type 0) (newest : M → Option ℤ) (start : Start) (From To : Option (List ℕ))
    (old_failures new_failures : ℕ) (session : Session) (service : Service M) (taken : Option (List ℕ)) : Type 0 where
  pub count : ℕ
  pub reached : Reached has newest start From To count session service taken
  pub why : (new_failures ≡ counted old_failures 1) ⊎ (count ≡ input_limit)

-- until a line could not be answered
pub record ReachedStop {M : Type 0} (has : M → Stamp → Type 0) (newest : M → Option ℤ) (start : Start) (From To : Option (List ℕ))
    (service : Service M) (taken : Option (List ℕ)) : Type 0 where
  pub came : List ℕ
  pub consumed : Consumes From To came
  pub stopped : Stopped has newest start came service taken
