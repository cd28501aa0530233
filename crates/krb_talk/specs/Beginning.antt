-- The context of a client whose list is checked, and why there is none.
use Rattle.std.specs.Prelude.{◌≡◌, ℕ, List, Option, Some, None, true, false}
use Rattle.krb_ap.specs.declared.accepted.Accepted.{Accepted}
use Rattle.krb_ap.specs.declared.reply.ReplyOptions.{ReplyOptions}
use Rattle.krb_context.specs.Context.{State, IsMicRefusal}
use Rattle.krb_context.specs.declared.agreed.Options.{Options}
use Rattle.krb_talk.specs.Agreeing.{HasOtherKey, IsContextOf}
use Rattle.krb_talk.specs.ListMic.{Shows}
use Rattle.krb_talk.specs.declared.checking.ListFault.{ListFault}
use Rattle.krb_talk.specs.declared.checking.ListFault.TheVariants.{OtherKey, Missing, Wrong, OutOfMemory}

-- it has taken the client's MIC
pub record IsShownIn (accepted : Accepted) (choice : ReplyOptions) (options : Options) (list mic : List ℕ) (taken : State) : Type 0 where
  pub begun : State
  pub begun_for : IsContextOf accepted choice options begun
  pub shows : Shows list mic begun taken

abbrev pub IsNotShown : Accepted → ReplyOptions → Options → List ℕ → List ℕ → ListFault → Type 0
IsNotShown accepted choice options list mic OtherKey = HasOtherKey accepted.subkey
IsNotShown accepted choice options list mic (Wrong fault) =
    (begun : State) × IsContextOf accepted choice options begun × IsMicRefusal begun list mic fault
IsNotShown accepted choice options list mic OutOfMemory = (taken : State) × IsShownIn accepted choice options list mic taken
IsNotShown accepted choice options list mic _ = ⊥

-- the client awaits a reply
pub record IsAskedIn (accepted : Accepted) (choice : ReplyOptions) (options : Options) (begun : State) : Type 0 where
  pub begun_for : IsContextOf accepted choice options begun
  pub wants_reply : accepted.mutual ≡ true

abbrev pub IsNotAsked : Accepted → ReplyOptions → Options → ListFault → Type 0
IsNotAsked accepted choice options OtherKey = HasOtherKey accepted.subkey
IsNotAsked accepted choice options Missing = (begun : State) × IsContextOf accepted choice options begun × (accepted.mutual ≡ false)
IsNotAsked accepted choice options OutOfMemory = (begun : State) × IsAskedIn accepted choice options begun
IsNotAsked accepted choice options _ = ⊥

-- the client's MIC came with its token, or it didn't
abbrev pub IsContextFor : Accepted → ReplyOptions → Options → List ℕ → Option (List ℕ) → State → Type 0
IsContextFor accepted choice options list (Some mic) taken = IsShownIn accepted choice options list mic taken
IsContextFor accepted choice options list None begun = IsAskedIn accepted choice options begun

abbrev pub IsNoContextFor : Accepted → ReplyOptions → Options → List ℕ → Option (List ℕ) → ListFault → Type 0
IsNoContextFor accepted choice options list (Some mic) fault = IsNotShown accepted choice options list mic fault
IsNoContextFor accepted choice options list None fault = IsNotAsked accepted choice options fault
