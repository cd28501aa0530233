-- What `explain` makes of a text that was read, or why it makes nothing.
use Rattle.std.proofs.Common.{◌≡◌, ◌≢◌, ◌≤◌, ◌∙◌, ℕ, List, length, Option, Some, Result, Ok, Err, ap, refl, sym, subst, arith}
use Rattle.std.specs.Prelude.{⊤, IfSome}
use Rattle.krb_file.specs.File.{TakesFile, file_limit}
use Rattle.krb_file.specs.Flow.{counted}
use Rattle.krb_explain.specs.Input.{read_of}
use Rattle.krb_explain.specs.Explained.{IsExplanation}
use Rattle.krb_explain.specs.declared.input.InputFault.{InputFault}
use Rattle.krb_explain.specs.declared.input.InputFault.TheVariants.{NoBytes, Symbol, End, OutOfMemory}
use Rattle.krb_file_commands.specs.Engine.{Makes}
use Rattle.krb_file_commands.proofs.FaultLaws.{if_some_map, no_ok}
use Rattle.krb_file_commands.proofs.ReadingLaws.{faulty, lacking}
use Rattle.krb_service_command.specs.Inner.Message.{IsUnreadMessage, ReadsMessage}
use Rattle.krb_service_command.specs.Explaining.{IsExplainedText, IsUnexplained, IsUnread, IsWholeText, explain_reads, explain_status}
use Rattle.krb_service_command.specs.declared.explain_fault.ExplainFault.{ExplainFault}
use Rattle.krb_service_command.specs.declared.explain_fault.ExplainFault.TheVariants.{Text, TooLong, Read}

module _ {X : Type 0} (Holds : X → Type 0) (from to : Option (List ℕ)) (before after : ℕ) where
  abbrev Made : Result X ExplainFault → Type 0
  Made result = Makes Holds IsUnexplained (λ _. ⊤) explain_status explain_reads from to before after result

  -- the text wasn't read
  pub unread : (fault : ExplainFault) → IsUnread from fault → after ≡ counted before (explain_reads fault) → TakesFile from to → Made (Err fault)
  unread (Text input) is reads taken =
      lacking Holds IsUnexplained (λ _. ⊤) explain_status explain_reads from to before after (Text input) (rw is refl) tt reads taken
  unread TooLong is reads taken = faulty Holds IsUnexplained (λ _. ⊤) explain_status explain_reads from to before after TooLong is tt reads taken
  unread Read is reads taken = lacking Holds IsUnexplained (λ _. ⊤) explain_status explain_reads from to before after Read refl tt reads taken

  -- the text spells no bytes
  met : (text : List ℕ) (fault : InputFault) → IfSome from (λ whole. IsWholeText whole text) → read_of text ≡ Err fault
      → after ≡ counted before 0 → TakesFile from to → Made (Err (Text fault))
  met text fault whole is reads taken =
      faulty Holds IsUnexplained (λ _. ⊤) explain_status explain_reads from to before after (Text fault)
      (if_some_map {P = λ it. IsWholeText it text} {Q = λ it. IsUnexplained it (Text fault)} from
      (λ it w. (subst (λ (t : List ℕ). length t ≤ file_limit) (sym w.0) w.1, subst (λ (t : List ℕ). read_of t ≡ Err fault) (sym w.0) is)) whole)
      tt reads taken

  pub unspelled : (text : List ℕ) (fault : InputFault) → IfSome from (λ whole. IsWholeText whole text) → (fault ≢ OutOfMemory → read_of text ≡ Err fault)
      → after ≡ counted before 0 → TakesFile from to → Made (Err (Text fault))
  unspelled text NoBytes whole is reads taken = met text NoBytes whole (is (λ e. cc)) reads taken
  unspelled text (Symbol at) whole is reads taken = met text (Symbol at) whole (is (λ e. cc)) reads taken
  unspelled text (End at) whole is reads taken = met text (End at) whole (is (λ e. cc)) reads taken
  unspelled text OutOfMemory whole is reads taken =
      lacking Holds IsUnexplained (λ _. ⊤) explain_status explain_reads from to before after (Text OutOfMemory) refl tt reads taken

-- a text that spells bytes has no fault
spelled_alone : (text bytes : List ℕ) (fault : ExplainFault) → length text ≤ file_limit → read_of text ≡ Ok bytes → IsUnexplained text fault → ⊥
spelled_alone text bytes (Text input) within spelled is = no_ok bytes input (sym spelled ∙ is.1)
spelled_alone text bytes TooLong within spelled is = omega (arith, within, is)
spelled_alone text bytes Read within spelled is = is

-- so bytes that it spells are all that is answered
pub none_met : (from : Option (List ℕ)) (text bytes : List ℕ) → IfSome from (λ whole. IsWholeText whole text) → read_of text ≡ Ok bytes
    → (given : List ℕ) (fault : ExplainFault) → from ≡ Some given → IsUnexplained given fault → ⊥
none_met from text bytes whole spelled given fault tells is =
    let w : IsWholeText given text = subst (λ (o : Option (List ℕ)). IfSome o (λ it. IsWholeText it text)) tells whole in
    spelled_alone text bytes fault w.1 spelled (subst (λ (t : List ℕ). IsUnexplained t fault) w.0 is)

-- its bytes were read
pub read_message : (from to : Option (List ℕ)) (before after : ℕ) (text bytes : List ℕ) → IfSome from (λ whole. IsWholeText whole text) → read_of text ≡ Ok bytes
    → {X : Type 0} (it : X) (items : X → List ℕ) → items it ≡ bytes → after ≡ counted before 0 → TakesFile from to
    → ReadsMessage from to before after items (Ok it)
read_message from to before after text bytes whole spelled it items is reads taken = record {
  made = if_some_map {P = λ whole. IsWholeText whole text} {Q = λ whole. read_of whole ≡ Ok (items it)} from
      (λ whole w. subst (λ (t : List ℕ). read_of t ≡ Ok (items it)) (sym w.0) (spelled ∙ ap (λ (b : List ℕ). Ok b) (sym is))) whole;
  fault = tt;
  faulty = λ given fault tells has. none_met from text bytes whole spelled given fault tells has;
  allowed = tt;
  reads = reads;
  taken = taken;
}

-- a message that wasn't read has a fault of that exit status
pub unread_message : (from to : Option (List ℕ)) (before after : ℕ) {X : Type 0} (items : X → List ℕ) (fault : ExplainFault) (status : ℕ) → status ≡ explain_status fault
    → ReadsMessage from to before after items (Err fault) → IsUnreadMessage from status
unread_message from to before after items fault status is reads = λ known.
    if_some_map {P = λ text. IsUnexplained text fault} {Q = λ text. (met : ExplainFault) × (IsUnexplained text met × (status ≡ explain_status met))} from
    (λ text has. (fault, (has, is))) (reads.fault (λ three. known (is ∙ three)))

-- ---- what is made of a message

module _ {X Y : Type 0} (from to : Option (List ℕ)) (before after : ℕ) (items : X → List ℕ) where
  -- nothing, if it couldn't be read
  pub unread_made : (Holds : Y → Type 0) (fault : ExplainFault) → ReadsMessage from to before after items (Err fault) → Made Holds from to before after (Err fault)
  unread_made Holds fault reads = record {
    made = tt;
    fault = reads.fault;
    faulty = λ given e tells has. tt;
    allowed = tt;
    reads = reads.reads;
    taken = reads.taken;
  }

  -- nothing, if there is no memory for its page
  pub no_page : (Holds : Y → Type 0) (message : X) → ReadsMessage from to before after items (Ok message) → Made Holds from to before after (Err (Text OutOfMemory))
  no_page Holds message reads =
      lacking Holds IsUnexplained (λ _. ⊤) explain_status explain_reads from to before after (Text OutOfMemory) refl tt reads.reads reads.taken

  -- a page that explains it
  pub explained : (message : X) (page : Y) (text_of : Y → List ℕ) → IsExplanation (items message) (text_of page) → ReadsMessage from to before after items (Ok message)
      → Made (λ (y : Y). IfSome from (λ text. IsExplainedText text (text_of y))) from to before after (Ok page)
  explained message page text_of explains reads = record {
    made = if_some_map {P = λ text. read_of text ≡ Ok (items message)} {Q = λ text. IsExplainedText text (text_of page)} from
        (λ text spelled. record { bytes = items message; spelled = spelled; explains = explains }) reads.made;
    fault = tt;
    faulty = reads.faulty;
    allowed = tt;
    reads = reads.reads;
    taken = reads.taken;
  }
