-- What is returned of the lists of an accepted request: its addresses, its authorization data, and
-- two lists of one: its checksum, and the realms that its ticket passed through.
use Rattle.std.specs.Prelude.{◌≡◌, ℕ, ℤ, List, [], ◌∷◌, length, Option, Some, None, nat_eq, if◌then◌else◌, slice_get}
use Rattle.std.specs.Option.{option_map}
use Rattle.krb_msg.specs.declared.typed.Typed.{Typed}
use Rattle.krb_ap.specs.declared.accepted.Accepted.{Accepted}
use Rattle.krb_c.specs.Answer.{Hands, plain, sized}
use Rattle.krb_c.specs.Codes.{no_such_entry, nothing_there, ok}
use Rattle.krb_c.specs.declared.structs.Answer.{Answer}

-- the numbers of the lists

abbrev pub addresses : ℕ
addresses = 1

abbrev pub ticket_authorization : ℕ
ticket_authorization = 2

abbrev pub authenticator_authorization : ℕ
authenticator_authorization = 3

abbrev pub checksum : ℕ
checksum = 4

abbrev pub transited : ℕ
transited = 5

-- the list that has a number, if the request has the list
abbrev pub list_of : ℕ → Accepted → Option (List Typed)
list_of list x =
    if nat_eq list addresses then option_map (λ l. l.items) x.addresses
    else if nat_eq list ticket_authorization then option_map (λ l. l.items) x.ticket_authorization
    else if nat_eq list authenticator_authorization then option_map (λ l. l.items) x.authenticator_authorization
    else if nat_eq list checksum then option_map (λ c. c ∷ []) x.checksum
    else if nat_eq list transited then Some (x.transited ∷ [])
    else None

-- its items are counted
abbrev pub CountsItems : Option (List Typed) → Answer → Type 0
CountsItems None answer = answer ≡ plain no_such_entry
CountsItems (Some items) answer = answer ≡ sized ok (length items)

abbrev pub Counts : Option Accepted → ℕ → Answer → Type 0
Counts None list answer = answer ≡ plain nothing_there
Counts (Some x) list answer = CountsItems (list_of list x) answer

-- an item is returned: its type, and its bytes in the buffer
abbrev pub HandsItem : Option Typed → ℤ → ℤ → List ℕ → List ℕ → Answer → Type 0
HandsItem None was is old new answer = (answer ≡ plain no_such_entry) × ((is ≡ was) × (new ≡ old))
HandsItem (Some item) was is old new answer = (is ≡ item.kind) × Hands item.bytes.items old new answer

abbrev pub item_of : Option (List Typed) → ℕ → Option Typed
item_of None index = None
item_of (Some items) index = slice_get items index

abbrev pub TellsItem : Option Accepted → ℕ → ℕ → ℤ → ℤ → List ℕ → List ℕ → Answer → Type 0
TellsItem None list index was is old new answer = (answer ≡ plain nothing_there) × ((is ≡ was) × (new ≡ old))
TellsItem (Some x) list index was is old new answer = HandsItem (item_of (list_of list x) index) was is old new answer
