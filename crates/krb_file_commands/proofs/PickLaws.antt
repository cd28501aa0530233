-- If an entry is picked, there is no reason for none.
use Rattle.std.proofs.Common.{◌≡◌, ℕ, ℤ, List, Option, Ok, Err, inl, inr, refl, subst}
use Rattle.krb_name.specs.declared.principal.Principal.{Principal}
use Rattle.krb_keytab.specs.Entry.{KeytabEntry}
use Rattle.krb_keytab.specs.Format.{IsKeytab}
use Rattle.krb_keytab.proofs.ChoiceLaws.{one_choice}
use Rattle.krb_keytab.specs.Pick.{Choice, IsAnyKey, IsChoice, chosen, no_name, no_key, no_version}
use Rattle.krb_file_commands.specs.Picking.{AllowsUnpicked, IsChoiceOf, IsUnmet, IsUnpicked}
use Rattle.krb_file_commands.specs.Status.{pick_reads}
use Rattle.krb_file_commands.specs.declared.fault.PickFault.{PickFault}
use Rattle.krb_file_commands.specs.declared.fault.PickFault.TheVariants.{Keytab, NoName, NoKey, NoVersion, OutOfMemory}
use Rattle.krb_file_commands.specs.declared.pick.PickKey.{PickKey}
use Rattle.krb_file_commands.proofs.FaultLaws.{no_ok, same_ok}
use Rattle.krb_file_commands.proofs.ReadingLaws.{KeytabsHaveOne}

abbrev pub ChoicesAreOne : Type 0
ChoicesAreOne = (entries : List KeytabEntry) (name : Principal) (etype : ℤ) (kvno : Option ℕ) (one other : Choice) → IsChoice entries name etype kvno one → IsChoice entries name etype kvno other → one ≡ other

-- a choice is of one kind, by the type
same_choice : ChoicesAreOne → (wanted : PickKey) (entries : List KeytabEntry) (entry : KeytabEntry) (choice : Choice) → IsChoiceOf wanted entries (chosen entry) → IsChoiceOf wanted entries choice
    → ((other : KeytabEntry) → choice ≡ chosen other → ⊥) → ⊥
same_choice law wanted entries entry choice (inl picked) (inl wants) never = never entry (law entries wanted.name wanted.etype wanted.kvno choice (chosen entry) wants.1 picked.1)
same_choice law wanted entries entry choice (inl picked) (inr wants) never = wants.0 picked.0
same_choice law wanted entries entry choice (inr picked) (inl wants) never = picked.0 wants.0
same_choice law wanted entries entry choice (inr picked) (inr wants) never = never entry (one_choice IsAnyKey entries wanted.name wanted.etype wanted.kvno choice (chosen entry) wants.1 picked.1)

-- if an entry is picked, this isn't the choice
never_picked : KeytabsHaveOne → ChoicesAreOne → (wanted : PickKey) (given : List ℕ) (entries : List KeytabEntry) (entry : KeytabEntry) → IsKeytab given entries → IsChoiceOf wanted entries (chosen entry)
    → (choice : Choice) (other : List KeytabEntry) → IsKeytab given other → IsChoiceOf wanted other choice → ((one : KeytabEntry) → choice ≡ chosen one → ⊥) → ⊥
never_picked one law wanted given entries entry is picked choice other its wants never =
    let same = same_ok other entries (one given (Ok other) (Ok entries) its is) in
    same_choice law wanted entries entry choice picked (subst (λ (l : List KeytabEntry). IsChoiceOf wanted l choice) same wants) never

pub none_unpicked : KeytabsHaveOne → ChoicesAreOne → (wanted : PickKey) (given : List ℕ) (entries : List KeytabEntry) (entry : KeytabEntry) → IsKeytab given entries → IsChoiceOf wanted entries (chosen entry)
    → (fault : PickFault) → IsUnpicked wanted given fault → ⊥
none_unpicked one law wanted given entries entry is picked (Keytab fault) has = no_ok entries fault (one given (Ok entries) (Err fault) is has)
none_unpicked one law wanted given entries entry is picked NoName has = never_picked one law wanted given entries entry is picked no_name has.0 has.1.0 has.1.1 (λ other same. cc)
none_unpicked one law wanted given entries entry is picked NoKey has = never_picked one law wanted given entries entry is picked no_key has.0 has.1.0 has.1.1 (λ other same. cc)
none_unpicked one law wanted given entries entry is picked NoVersion has = never_picked one law wanted given entries entry is picked no_version has.0 has.1.0 has.1.1 (λ other same. cc)
none_unpicked one law wanted given entries entry is picked OutOfMemory has = has.1.1

-- why none of the entries is picked is why nothing is made
pub unmet_of : (wanted : PickKey) (given : List ℕ) (entries : List KeytabEntry) (fault : PickFault) → IsKeytab given entries → IsUnmet wanted entries fault → IsUnpicked wanted given fault
unmet_of wanted given entries (Keytab fault) is unmet = absurd unmet
unmet_of wanted given entries NoName is unmet = (entries, (is, unmet))
unmet_of wanted given entries NoKey is unmet = (entries, (is, unmet))
unmet_of wanted given entries NoVersion is unmet = (entries, (is, unmet))
unmet_of wanted given entries OutOfMemory is unmet = absurd unmet

pub allows_unmet : (wanted : PickKey) (from : Option (List ℕ)) (entries : List KeytabEntry) (fault : PickFault) → IsUnmet wanted entries fault → AllowsUnpicked wanted from fault
allows_unmet wanted from entries (Keytab fault) unmet = absurd unmet
allows_unmet wanted from entries NoName unmet = tt
allows_unmet wanted from entries NoKey unmet = tt
allows_unmet wanted from entries NoVersion unmet = tt
allows_unmet wanted from entries OutOfMemory unmet = absurd unmet

pub unmet_reads : (wanted : PickKey) (entries : List KeytabEntry) (fault : PickFault) → IsUnmet wanted entries fault → pick_reads fault ≡ 0
unmet_reads wanted entries (Keytab fault) unmet = absurd unmet
unmet_reads wanted entries NoName unmet = refl
unmet_reads wanted entries NoKey unmet = refl
unmet_reads wanted entries NoVersion unmet = refl
unmet_reads wanted entries OutOfMemory unmet = refl
