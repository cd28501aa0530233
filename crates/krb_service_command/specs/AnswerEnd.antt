-- What follows an answer of `accept` on its line: a reply, an error, or nothing.
use Rattle.std.specs.Prelude.{◌≡◌, ◌≢◌, ◌⊎◌, ℕ, ℤ, true, false, List, [], ◌++◌, Option, Some, None, Result, Ok, Err, codes, string_bytes}
use Rattle.std.specs.Option.{option_map}
use Rattle.std.specs.Borrow.{Bor}
use Rattle.krb_name.specs.declared.principal.Principal.{Principal}
use Rattle.krb_ap.specs.Answer.{taken_of}
use Rattle.krb_ap.specs.Causes.{code_of}
use Rattle.krb_ap.specs.Reply.{IsReply}
use Rattle.krb_ap.specs.ErrorReply.{IsErrorReply, IsErrorTooLong}
use Rattle.krb_ap.specs.declared.accepted.Accepted.{Accepted}
use Rattle.krb_ap.specs.declared.refusal.Refusal.{Refusal}
use Rattle.krb_ap.specs.declared.reply.ReplyOptions.{ReplyOptions}
use Rattle.krb_gss.specs.Answer as gss
use Rattle.krb_call_lines.specs.Forms.{IsSentTooLong, TellsAnswer}
use Rattle.krb_call_lines.specs.declared.form.Envelope.{Envelope}
use Rattle.krb_service_command.specs.declared.answer_end.AnswerEnd.{AnswerEnd}
use Rattle.krb_service_command.specs.declared.answer_end.AnswerEnd.TheVariants.{Nothing, Reply, Error, OutOfMemory}

-- the service's name, if it was given
abbrev pub named : Option (Bor Principal) → Option Principal
named service = option_map (λ s. s.now) service

-- a reply of the program has no subkey and no sequence number
abbrev pub plain_reply : ReplyOptions
plain_reply = record { subkey = None; seq = None }

-- the text is a reply in hexadecimal, sealed with this confounder, in the request's envelope
pub record TellsReply (envelope : Option Envelope) (accepted : Accepted) (confounder text : List ℕ) : Type 0 where
  pub bytes : List ℕ
  pub reply : IsReply (taken_of accepted) confounder plain_reply bytes
  pub tells : TellsAnswer envelope (gss.reply bytes) text

-- the text is the error of a refusal in hexadecimal, with the service's time and name, in the request's envelope
pub record TellsError (envelope : Option Envelope) (refusal : Refusal) (now : ℤ) (service : Principal) (text : List ℕ) : Type 0 where
  pub bytes : List ℕ
  pub error : IsErrorReply refusal now service bytes
  pub tells : TellsAnswer envelope (gss.error bytes) text

-- there is an error, which is too long for a token
pub record IsErrorUnsent (envelope : Option Envelope) (refusal : Refusal) (now : ℤ) (service : Principal) : Type 0 where
  pub bytes : List ℕ
  pub error : IsErrorReply refusal now service bytes
  pub too_long : IsSentTooLong envelope (gss.error bytes)

-- what follows `accepted`, if there is a confounder: a reply if the client asked for one, unless memory ran out
abbrev pub IsReplyEnd : Option Envelope → Accepted → List ℕ → AnswerEnd → Type 0
IsReplyEnd envelope accepted confounder Nothing = accepted.mutual ≡ false
IsReplyEnd envelope accepted confounder (Reply text) = (accepted.mutual ≡ true) × TellsReply envelope accepted confounder (string_bytes text)
IsReplyEnd envelope accepted confounder (Error text) = ⊥
IsReplyEnd envelope accepted confounder OutOfMemory = accepted.mutual ≡ true

-- what follows `refused`, if the service has a name: the error if there is one, unless memory ran out
abbrev pub IsErrorEnd : Option Envelope → Refusal → ℤ → Principal → AnswerEnd → Type 0
IsErrorEnd envelope refusal now service Nothing =
    (code_of refusal ≡ None) ⊎ (IsErrorTooLong refusal now service ⊎ IsErrorUnsent envelope refusal now service)
IsErrorEnd envelope refusal now service (Reply text) = ⊥
IsErrorEnd envelope refusal now service (Error text) = TellsError envelope refusal now service (string_bytes text)
IsErrorEnd envelope refusal now service OutOfMemory = code_of refusal ≢ None

-- what follows the answer to a call of this moment, by the request's envelope, its line's confounder and the service's name
abbrev pub IsAnswerEnd : Option Envelope → Result Accepted Refusal → ℤ → Option (List ℕ) → Option Principal → AnswerEnd → Type 0
IsAnswerEnd envelope (Ok accepted) now None service end = end ≡ Nothing
IsAnswerEnd envelope (Ok accepted) now (Some confounder) service end = IsReplyEnd envelope accepted confounder end
IsAnswerEnd envelope (Err refusal) now confounder None end = end ≡ Nothing
IsAnswerEnd envelope (Err refusal) now confounder (Some service) end = IsErrorEnd envelope refusal now service end

-- what is printed of it
abbrev pub end_text : AnswerEnd → List ℕ
end_text Nothing = []
end_text (Reply text) = codes " reply " ++ string_bytes text
end_text (Error text) = codes " error " ++ string_bytes text
end_text OutOfMemory = []

-- and what it makes of the exit status
abbrev pub end_status : AnswerEnd → ℕ
end_status OutOfMemory = 3
end_status _ = 0
