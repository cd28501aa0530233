-- What `accept` prints for the lines of its input, and its exit status.
use Rattle.std.specs.Prelude.{◌≡◌, ◌≢◌, ◌⊎◌, ◌<◌, ◌≤◌, max, take, ℕ, ℤ, Bool, List, [], ◌∷◌, ◌++◌, Option, Some, None, Result, Ok, Err, All, IsErrOf, codes, length, if◌then◌else◌}
use Rattle.std.specs.List.{flat_map}
use Rattle.std.specs.Fmt.{decimal, signed_decimal}
use Rattle.std.specs.Io.KnownBytes.{Appends, Consumes}
use Rattle.krb_file.specs.Flow.{counted}
use Rattle.krb_name.specs.Text.{text_of}
use Rattle.krb_replay.specs.Stamp.{Stamp}
use Rattle.krb_ap.specs.Setup.{Setup, Arrival, arrival}
use Rattle.krb_ap.specs.History.{StandsFor}
use Rattle.krb_ap.specs.Answer.{Answers, after}
use Rattle.krb_ap.specs.Causes.{code_of, name_of}
use Rattle.krb_ap.specs.Opened.{IsOrdinary}
use Rattle.krb_ap.specs.declared.accepted.Accepted.{Accepted}
use Rattle.krb_ap.specs.declared.refusal.Refusal.{Refusal}
use Rattle.krb_ap.specs.declared.refusal.Refusal.TheVariants.{OutOfMemory}
use Rattle.krb_gss.specs.declared.fault.TokenFault.{TokenFault}
use Rattle.krb_call_lines.specs.CallLine.{SpellsCall, IsBadLine}
use Rattle.krb_call_lines.specs.TokenText.{bad_token_line}
use Rattle.krb_call_lines.specs.Forms.{Carries, IsUnopened}
use Rattle.krb_service_command.specs.AnswerEnd.{IsAnswerEnd, named, end_status, end_text}
use Rattle.krb_service_command.specs.declared.accept.AnswerOptions.{AnswerOptions}
use Rattle.krb_service_command.specs.declared.answering.LineOutcome.{LineOutcome}
use Rattle.krb_service_command.specs.declared.answering.LineOutcome.TheVariants.{BadLine, BadToken, Answered}
use Rattle.krb_call_lines.specs.declared.form.Envelope.{Envelope}
use Rattle.krb_call_lines.specs.declared.form.Form.{Form}
use Rattle.krb_service_command.specs.declared.answer_end.AnswerEnd.{AnswerEnd}
use Rattle.krb_service_command.specs.declared.answer_end.LineAnswer.{LineAnswer}

-- ---- one line

-- the error code, if the refusal has one
abbrev pub code_text : Option ℤ → List ℕ
code_text None = codes "none"
code_text (Some code) = signed_decimal code

abbrev pub mutual_text : Bool → List ℕ
mutual_text wants_reply = if wants_reply then codes "mutual" else codes "plain"

-- client, enctype of the session key, the client's time, and whether it asks for a reply
abbrev pub accepted_line : Accepted → AnswerEnd → List ℕ
accepted_line x end =
    codes "accepted " ++ (text_of x.client ++ (32 ∷ (signed_decimal x.session_key.etype ++ (32 ∷ (signed_decimal x.ctime
    ++ (32 ∷ (decimal x.cusec ++ (32 ∷ (mutual_text x.mutual ++ (end_text end ++ 10 ∷ []))))))))))

abbrev pub refused_line : Refusal → AnswerEnd → List ℕ
refused_line refusal end = codes "refused " ++ (code_text (code_of refusal) ++ (32 ∷ (name_of refusal ++ (end_text end ++ 10 ∷ []))))

abbrev pub call_text : Result Accepted Refusal → AnswerEnd → List ℕ
call_text (Ok accepted) end = accepted_line accepted end
call_text (Err refusal) end = refused_line refusal end

-- what is printed
abbrev pub answer_line : LineOutcome → List ℕ
answer_line BadLine = codes "bad line\n"
answer_line (BadToken fault) = bad_token_line fault
answer_line (Answered answer) = call_text answer.outcome answer.end

-- the line spells bytes that are to be a token, aren't one, and have this fault
pub record HoldsBadToken (form : Form) (line : List ℕ) (fault : TokenFault) : Type 0 where
  pub bytes : List ℕ
  pub moment : ℤ
  pub confounder : Option (List ℕ)
  pub spells : SpellsCall line bytes moment confounder
  pub unopened : IsUnopened form bytes fault

-- The line spells bytes that carry a request. After a history, this is answered to the request at the line's moment, by a service of this
-- setup, and this is the history then. Out of memory is answered to an ordinary request alone.
pub record BecomesCall (options : AnswerOptions) (setup : Setup) (history : List Arrival) (line : List ℕ) (answer : LineAnswer)
    (end : List Arrival) : Type 0 where
  pub bytes : List ℕ
  pub moment : ℤ
  pub confounder : Option (List ℕ)
  pub envelope : Option Envelope
  pub request : List ℕ
  pub spells : SpellsCall line bytes moment confounder
  pub carries : Carries options.form bytes envelope request
  pub answers : Answers setup history (arrival request moment) answer.outcome
  pub end_is : end ≡ after history (arrival request moment) answer.outcome
  pub memory : IsErrOf answer.outcome OutOfMemory → IsOrdinary request
  pub follows : IsAnswerEnd envelope answer.outcome moment confounder (named options.service) answer.end

-- after a history, this becomes of a line, and this is the history then
abbrev pub Becomes : AnswerOptions → Setup → List Arrival → List ℕ → LineOutcome → List Arrival → Type 0
Becomes options setup history line BadLine end = IsBadLine line × (end ≡ history)
Becomes options setup history line (BadToken fault) end = HoldsBadToken options.form line fault × (end ≡ history)
Becomes options setup history line (Answered answer) end = BecomesCall options setup history line answer end

-- ---- lines one after another

-- after a history, this becomes of the lines, one after another, and this is the history then
abbrev pub BecomeInTurn : AnswerOptions → Setup → List Arrival → List (List ℕ) → List LineOutcome → List Arrival → Type 0
BecomeInTurn options setup history [] [] end = end ≡ history
BecomeInTurn options setup history (line ∷ lines) (outcome ∷ outcomes) end =
    (next : List Arrival) × (Becomes options setup history line outcome next × BecomeInTurn options setup next lines outcomes end)
BecomeInTurn options setup history _ _ end = ⊥

-- what is printed for them
abbrev pub answer_lines : List LineOutcome → List ℕ
answer_lines = flat_map answer_line

-- of these all but the last were printed whole, and of the last a beginning
pub record PrintsBeginning (Old New : Option (List ℕ)) (outcomes : List LineOutcome) : Type 0 where
  pub whole : List LineOutcome
  pub last : List LineOutcome
  pub outcomes_are : outcomes ≡ whole ++ last
  pub one : length last ≤ 1
  pub count : ℕ
  pub printed : Appends Old New (answer_lines whole ++ take count (answer_lines last))

-- the exit status: 3 if memory ran out, else 1 if a line or its token was bad, or its request was refused, else 0
abbrev pub call_status : Result Accepted Refusal → ℕ
call_status (Ok accepted) = 0
call_status (Err OutOfMemory) = 3
call_status (Err refusal) = 1

abbrev pub outcome_status : LineOutcome → ℕ
outcome_status BadLine = 1
outcome_status (BadToken fault) = 1
outcome_status (Answered answer) = max (call_status answer.outcome) (end_status answer.end)

abbrev pub status_of_lines : List LineOutcome → ℕ
status_of_lines [] = 0
status_of_lines (outcome ∷ outcomes) = max (outcome_status outcome) (status_of_lines outcomes)

-- ---- the lines of an input

abbrev pub ended : List ℕ → List ℕ
ended line = line ++ 10 ∷ []

-- the bytes are these lines, each with its end, the byte 10, and then a rest without one
pub record HasLines (bytes : List ℕ) (lines : List (List ℕ)) (rest : List ℕ) : Type 0 where
  pub bytes_are : bytes ≡ flat_map ended lines ++ rest
  pub plain : All (All (λ byte. byte ≢ 10)) lines
  pub plain_rest : All (λ byte. byte ≢ 10) rest

-- a rest counts as a line unless it is empty
abbrev pub last_line : List ℕ → List (List ℕ)
last_line [] = []
last_line (byte ∷ rest) = (byte ∷ rest) ∷ []

-- how many bytes of input are taken
abbrev pub input_limit : ℕ
input_limit = 1_099_511_627_776

-- all of the input's lines were answered
pub record AnswersAll (options : AnswerOptions) (setup : Setup) (history : List Arrival) (input : List ℕ) (status : ℕ) (Old New : Option (List ℕ))
    (Has : Stamp → Type 0) (latest : Option ℤ) : Type 0 where
  pub lines : List (List ℕ)
  pub rest : List ℕ
  pub outcomes : List LineOutcome
  pub end : List Arrival
  pub parts : HasLines input lines rest
  pub become : BecomeInTurn options setup history (lines ++ last_line rest) outcomes end
  pub printed : Appends Old New (answer_lines outcomes)
  pub status_is : status ≡ status_of_lines outcomes
  pub limit : length input < input_limit
  pub stands : StandsFor setup Has latest end

-- so many bytes came of a source
pub record Came (From To : Option (List ℕ)) (count : ℕ) : Type 0 where
  pub bytes : List ℕ
  pub consumed : Consumes From To bytes
  pub counted : length bytes ≡ count

-- a read failed, or so many bytes came as are taken; the whole lines of what came were answered
pub record AnswersWhole (options : AnswerOptions) (setup : Setup) (history : List Arrival) (input : List ℕ) (unread : Option (List ℕ)) (old_failures new_failures : ℕ)
    (Old New : Option (List ℕ)) (Has : Stamp → Type 0) (latest : Option ℤ) : Type 0 where
  pub came : List ℕ
  pub left : List ℕ
  pub lines : List (List ℕ)
  pub rest : List ℕ
  pub outcomes : List LineOutcome
  pub end : List Arrival
  pub input_is : input ≡ came ++ left
  pub unread_is : unread ≡ Some left
  pub why : (new_failures ≡ counted old_failures 1) ⊎ (length came ≡ input_limit)
  pub parts : HasLines came lines rest
  pub become : BecomeInTurn options setup history lines outcomes end
  pub printed : Appends Old New (answer_lines outcomes)
  pub stands : StandsFor setup Has latest end

-- the lines that were taken: the whole lines of a beginning of the input, or all of its lines
pub record TakesLines (input : List ℕ) (taken : List (List ℕ)) : Type 0 where
  pub came : List ℕ
  pub left : List ℕ
  pub lines : List (List ℕ)
  pub rest : List ℕ
  pub input_is : input ≡ came ++ left
  pub parts : HasLines came lines rest
  pub taken_are : (taken ≡ lines) ⊎ ((left ≡ []) × (taken ≡ lines ++ last_line rest))

-- lines were taken, and their answers were printed up to some byte of the last
pub record AnswersBeginning (options : AnswerOptions) (setup : Setup) (history : List Arrival) (input : List ℕ) (Old New : Option (List ℕ))
    (Has : Stamp → Type 0) (latest : Option ℤ) : Type 0 where
  pub taken : List (List ℕ)
  pub outcomes : List LineOutcome
  pub end : List Arrival
  pub takes : TakesLines input taken
  pub become : BecomeInTurn options setup history taken outcomes end
  pub printed : PrintsBeginning Old New outcomes
  pub stands : StandsFor setup Has latest end
