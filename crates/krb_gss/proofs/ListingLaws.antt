-- A list that names another mechanism first: what reading finds, if it finds something.
use Rattle.std.proofs.Common.{◌≡◌, ℕ, ◌≤◌, List, length, Option, Some, None, Result, Ok, Err, refl, sym, ap, ◌∙◌, subst}
use Rattle.std.specs.Prelude.{IfOk, IfErr, IfSome, IsOkAnd}
use Rattle.std.specs.Borrow.{Bor}
use Rattle.krb_gss.specs.Checksum.{bytes_if}
use Rattle.krb_der.proofs.LengthLaws.{no_value}
use Rattle.krb_der.specs.Fault.{HasHead}
use Rattle.krb_der.specs.declared.fault.Fault.{Fault}
use Rattle.krb_der.specs.Reading.{Enters}
use Rattle.krb_der.specs.Place.{Place, begin_at}
use Rattle.krb_der.specs.Spells.{limit}
use Rattle.krb_der.specs.Computed.Steps.{◌>>?◌}
use Rattle.krb_der.specs.Computed.Parts.{parts_at}
use Rattle.krb_der.specs.Parts.{Stand}
use Rattle.krb_der.proofs.Steps.{Reads}
use Rattle.krb_der.proofs.PartsLaws.{reads-enter, reads-parts}
use Rattle.krb_gss.specs.declared.fault.TokenFault.{TokenFault}
use Rattle.krb_gss.specs.declared.mechanism.Mechanism.{Mechanism}
use Rattle.krb_gss.specs.declared.mechanism.Foreign.{Foreign}
use Rattle.krb_gss.specs.declared.mechanism.Foreign.TheVariants.{Negotiation}
use Rattle.krb_gss.specs.Mechanism.{named_of}
use Rattle.krb_gss.specs.Module.{initial_context_token, neg_token_init, later_response}
use Rattle.krb_gss.specs.Token.{IsFramed, HoldsFields, of_init}
use Rattle.krb_gss.specs.Listing.{Names, named_here, named_later, IsListed, IsListing, mech_types, of_types, mech_type_names}
use Rattle.krb_gss.specs.ListMic.{of_mic, rest_if, HoldsMic, IsMicFault}
use Rattle.krb_gss.specs.Inner.Reading.{begun, ok_of, init_at, types_at, other_of, negotiation_from, listing_at, mic_at, mic_whole}
use Rattle.krb_gss.proofs.ReadLaws.{either, of-token, reads-begun, reads-fields}
use Rattle.krb_gss.proofs.NegotiationLaws.{Gets, gets, gets-then, gets-spnego, some_none}

-- ---- what is after the name of SPNEGO
pub record IsNegotiation (bytes : List ℕ) (after : Place) : Type 0 where
  pub within : length bytes ≤ limit
  pub name : Place
  pub framed : IsFramed (begin_at bytes) name after
  pub negotiation : named_of name.rest ≡ Err Negotiation

abbrev Framed : Place → Place → Type 0
Framed here after = (x : Place × Place) × IsFramed here x.0 x.1 × (named_of x.0.rest ≡ Err Negotiation) × (x.1 ≡ after)

negotiations : (bytes : List ℕ) → Gets (negotiation_from bytes) (IsNegotiation bytes)
unfolding negotiation_from
negotiations bytes =
    gets-then {Next = Framed} (ok_of (begun bytes)) _ (gets (begun bytes) (reads-begun bytes))
    (λ here b. gets-then {Next = λ x after. (named_of x.0.rest ≡ Err Negotiation) × (x.1 ≡ after)} (ok_of (parts_at initial_context_token here)) _ (gets (parts_at initial_context_token here) (reads-parts initial_context_token here))
    (λ x is. gets-spnego (named_of x.0.rest) x.1) (λ x after is k. (x, is, k.0, k.1)) (λ after k. (k.0, k.1, (k.2, k.3))))
    (λ here after b k. whole here after b k) (λ after k. (begin_at bytes, (k.within, refl), ((k.name, after), k.framed, k.negotiation, refl)))
  where
    whole : (here after : Place) → (length bytes ≤ limit) × (here ≡ begin_at bytes) → Framed here after → IsNegotiation bytes after
    whole here after b k =
        record {
          within = b.0;
          name = k.0.0;
          framed = subst (λ (p : Place). IsFramed p k.0.0 after) b.1 (subst (λ (p : Place). IsFramed here k.0.0 p) k.3 k.1);
          negotiation = k.2;
        }

-- ---- the list
gets-other : (r : Result Mechanism Foreign) → Gets (other_of r) (λ other. r ≡ Err other)
gets-other (Ok m) = record { found = tt; only = λ other k. absurd (let e : ◌≡◌ {A = Result Mechanism Foreign} (Ok m) (Err other) = k in cc) }
gets-other (Err f) = record { found = refl; only = λ other k. let e : ◌≡◌ {A = Result Mechanism Foreign} (Err f) (Err other) = k in ap Some (same f other e) }
  where
    same : (a b : Foreign) → ◌≡◌ {A = Result Mechanism Foreign} (Err a) (Err b) → a ≡ b
    same a b e = cc

gets-pair : (list names : Place) → Gets (Some (list, names)) (λ (x : Place × Place). (list, names) ≡ x)
gets-pair list names = record { found = refl; only = λ x k. ap Some k }

abbrev Sequenced : Place → Place × Place → Type 0
Sequenced list x = Stand mech_type_names x.1 list × (list ≡ x.0)

abbrev Typed : Place → Place × Place → Type 0
Typed after x = HoldsFields 0xa0 mech_types of_types after x.0 × Stand mech_type_names x.1 x.0

abbrev Othered : Place → Place → Place × Place → Type 0
Othered after oid x = (other : Foreign) × (named_of oid.rest ≡ Err other) × Typed after x

abbrev Inited : Place → Place × Place → Type 0
Inited after x = (y : Place × Option Place) × HoldsFields 0xa0 neg_token_init of_init after y × Othered after y.0 x

sequenced : (list : Place) → Gets (ok_of (parts_at mech_type_names list) >>? λ names. Some (list, names)) (Sequenced list)
sequenced list =
    gets-then {Next = λ names x. (list, names) ≡ x} (ok_of (parts_at mech_type_names list)) _ (gets (parts_at mech_type_names list) (reads-parts mech_type_names list)) (λ names is. gets-pair list names)
    (λ names x is k. subst (Sequenced list) k (is, refl)) (λ x k. (x.1, k.0, ap (λ (p : Place). (p, x.1)) k.1))

typed : (after : Place) → Gets (ok_of (types_at after) >>? λ list. ok_of (parts_at mech_type_names list) >>? λ names. Some (list, names)) (Typed after)
typed after =
    gets-then {Next = Sequenced} (ok_of (types_at after)) _ (gets (types_at after) (reads-fields 0xa0 mech_types of_types after)) (λ list is. sequenced list)
    (λ list x is k. (subst (HoldsFields 0xa0 mech_types of_types after) k.1 is, subst (Stand mech_type_names x.1) k.1 k.0)) (λ x k. (x.0, k.0, (k.1, refl)))

inited : (after : Place) → Gets (ok_of (init_at after) >>? λ y. other_of (named_of y.0.rest) >>? λ _. ok_of (types_at after) >>? λ list. ok_of (parts_at mech_type_names list) >>? λ names. Some (list, names)) (Inited after)
inited after =
    gets-then {Next = λ y x. Othered after y.0 x} (ok_of (init_at after)) _ (gets (init_at after) (reads-fields 0xa0 neg_token_init of_init after))
    (λ y is. gets-then {Next = λ other x. Typed after x} (other_of (named_of y.0.rest)) _ (gets-other (named_of y.0.rest)) (λ other e. typed after) (λ other x e k. (other, e, k)) (λ x k. (k.0, k.1, k.2)))
    (λ y x is k. (y, is, k)) (λ x k. (k.0, k.1, k.2))

listings : (bytes : List ℕ) → Gets (listing_at bytes) (λ (x : Place × Place). IsListed x.0 x.1 bytes)
unfolding listing_at
listings bytes =
    gets-then {Next = Inited} (negotiation_from bytes) _ (negotiations bytes) (λ after n. inited after)
    (λ after x n k. record {
      within = n.within;
      name = n.name;
      after = after;
      oid = k.0.0;
      token = k.0.1;
      other = k.2.0;
      framed = n.framed;
      negotiation = n.negotiation;
      init = k.1;
      first_is = k.2.1;
      types = k.2.2.0;
      sequence = k.2.2.1;
    })
    (λ x k. (k.after, record { within = k.within; name = k.name; framed = k.framed; negotiation = k.negotiation }, ((k.oid, k.token), k.init, (k.other, k.first_is, (k.types, k.sequence)))))

pub listing-none : (bytes : List ℕ) → None ≡ listing_at bytes → (m : Mechanism) (list : List ℕ) → IsListing m list bytes → ⊥
listing-none bytes e m list k = some_none (k.types, k.names) (e ∙ (listings bytes).only (k.types, k.names) k.listed)

module _ {bytes : List ℕ} {types names : Place} (e : Some (types, names) ≡ listing_at bytes) where
  pub listing-is : (m : Mechanism) (list : List ℕ) → types.rest ≡ list → Names m names → IsListing m list bytes
  listing-is m list is named =
      record {
        types = types;
        names = names;
        listed = subst (λ o. IfSome o (λ (x : Place × Place). IsListed x.0 x.1 bytes)) (sym e) (listings bytes).found;
        list_is = is;
        named = named;
      }

  same-listed : (m : Mechanism) (list : List ℕ) (k : IsListing m list bytes) → ◌≡◌ {A = Place × Place} (types, names) (k.types, k.names)
  same-listed m list k = same (types, names) (k.types, k.names) (e ∙ (listings bytes).only (k.types, k.names) k.listed)
    where
      same : (x y : Place × Place) → ◌≡◌ {A = Option (Place × Place)} (Some x) (Some y) → x ≡ y
      same x y q = cc

  pub listing-not : ((m : Mechanism) → Names m names → ⊥) → (m : Mechanism) (list : List ℕ) → IsListing m list bytes → ⊥
  listing-not isnt m list k = isnt m (subst (λ (x : Place × Place). Names m x.1) (sym (same-listed m list k)) k.named)

-- ---- the names in it
-- two places at which the same is named
pub record SameNames (here there : Place) : Type 0 where
  pub to : (m : Mechanism) → Names m here → Names m there
  pub from : (m : Mechanism) → Names m there → Names m here

pub same-names : (here : Place) → SameNames here here
same-names here = record { to = λ m k. k; from = λ m k. k }

ok-and : {A : Type 0} (S : A → Type 0) (v : A) (r : Result A Fault) → r ≡ Ok v → IsOkAnd r S → S v
ok-and S v r e k = subst (λ q. IsOkAnd q S) e k

err-and : {A : Type 0} (S : A → Type 0) (f : Fault) (r : Result A Fault) → r ≡ Err f → IsOkAnd r S → ⊥
err-and S f r e k = subst (λ q. IsOkAnd q S) e k

module _ {left new names : Place} {r : Result Place Fault} (enters : Enters 0x06 r left new) (inv : SameNames left names) where
  module _ {oid : Place} (is : r ≡ Ok oid) where
    head : HasHead 0x06 left oid new
    head = subst (λ q. IfOk q (λ inside. HasHead 0x06 left inside new)) is enters.found

    pub named-among : (m : Mechanism) → named_of oid.rest ≡ Ok m → Names m names
    named-among m e = inv.to m (named_here oid new head e)

    pub goes-on : (other : Foreign) → named_of oid.rest ≡ Err other → SameNames new names
    goes-on other e = record { to = λ m k. inv.to m (named_later oid new other head e k); from = λ m k. later m (inv.from m k) }
      where
        later : (m : Mechanism) → Names m left → Names m new
        later m (named_here inside after h n) =
            let s = ok-and (λ x. (x ≡ inside) × (new ≡ after)) oid r is (enters.only inside after h) in
            absurd (no_value other m (sym e ∙ ap (λ (p : Place). named_of p.rest) s.0 ∙ n))
        later m (named_later inside after f h n k) = let s = ok-and (λ x. (x ≡ inside) × (new ≡ after)) oid r is (enters.only inside after h) in subst (Names m) (sym s.1) k

  pub none-among : (f : Fault) → r ≡ Err f → (m : Mechanism) → Names m names → ⊥
  none-among f is m k = none (inv.from m k)
    where
      none : Names m left → ⊥
      none (named_here inside after h n) = err-and (λ x. (x ≡ inside) × (new ≡ after)) f r is (enters.only inside after h)
      none (named_later inside after g h n k) = err-and (λ x. (x ≡ inside) × (new ≡ after)) f r is (enters.only inside after h)

-- ---- one list
same-mechanism : (a b : Mechanism) → ◌≡◌ {A = Result Mechanism Foreign} (Ok a) (Ok b) → a ≡ b
same-mechanism a b e = cc

one-head : {here inside after other behind : Place} → HasHead 0x06 here inside after → HasHead 0x06 here other behind → (inside ≡ other) × (after ≡ behind)
one-head {here = here} {inside = inside} {after = after} {other = other} {behind = behind} h k =
    let e = sym ((reads-enter 0x06 here).only (inside, after) h) ∙ (reads-enter 0x06 here).only (other, behind) k in
    (ap (λ (x : Place × Place). x.0) (same (inside, after) (other, behind) e), ap (λ (x : Place × Place). x.1) (same (inside, after) (other, behind) e))
  where
    same : (x y : Place × Place) → ◌≡◌ {A = Result (Place × Place) Fault} (Ok x) (Ok y) → x ≡ y
    same x y q = cc

one-name : (m n : Mechanism) {here : Place} → Names m here → Names n here → m ≡ n
one-name m n (named_here oid after h e) (named_here inside behind k f) =
    same-mechanism m n (sym e ∙ ap (λ (p : Place). named_of p.rest) (one-head h k).0 ∙ f)
one-name m n (named_here oid after h e) (named_later inside behind other k f j) =
    absurd (no_value other m (sym f ∙ ap (λ (p : Place). named_of p.rest) (sym (one-head h k).0) ∙ e))
one-name m n (named_later oid after other h e i) (named_here inside behind k f) =
    absurd (no_value other n (sym e ∙ ap (λ (p : Place). named_of p.rest) (one-head h k).0 ∙ f))
one-name m n (named_later oid after other h e i) (named_later inside behind another k f j) = one-name m n i (subst (Names n) (sym (one-head h k).1) j)

pub listing-one : (m n : Mechanism) (a b bytes : List ℕ) → IsListing m a bytes → IsListing n b bytes → (m ≡ n) × (a ≡ b)
listing-one m n a b bytes i j = (one-name m n i.named (subst (λ (x : Place × Place). Names n x.1) (sym e) j.named), sym i.list_is ∙ ap (λ (x : Place × Place). x.0.rest) e ∙ j.list_is)
  where
    same : (x y : Place × Place) → ◌≡◌ {A = Option (Place × Place)} (Some x) (Some y) → x ≡ y
    same x y q = cc

    e : ◌≡◌ {A = Place × Place} (i.types, i.names) (j.types, j.names)
    e = same (i.types, i.names) (j.types, j.names) (sym ((listings bytes).only (i.types, i.names) i.listed) ∙ (listings bytes).only (j.types, j.names) j.listed)

-- ---- a client's mechListMIC
pub mics : (bytes : List ℕ) → Reads (mic_whole bytes) (λ (p : Option Place). (length bytes ≤ limit) × HoldsFields 0xa1 later_response of_mic (begin_at bytes) p) (IsMicFault bytes)
unfolding mic_whole
mics bytes =
    either {Next = λ here p. HoldsFields 0xa1 later_response of_mic here p} (begun bytes) _ (reads-begun bytes) (λ here b. of-token (mic_at here) (reads-fields 0xa1 later_response of_mic here))
    (λ here p b k. (b.0, subst (λ (q : Place). HoldsFields 0xa1 later_response of_mic q p) b.1 k)) (λ p k. (begin_at bytes, (k.0, refl), k.1))

module _ {bytes : List ℕ} {place : Option Place} (e : Ok place ≡ mic_whole bytes) where
  pub mic-found : (it : Option (Bor (List ℕ))) → bytes_if it ≡ rest_if place → HoldsMic (bytes_if it) bytes
  mic-found it is =
      let f = subst (λ r. IfOk r (λ (p : Option Place). (length bytes ≤ limit) × HoldsFields 0xa1 later_response of_mic (begin_at bytes) p)) (sym e) (mics bytes).found in
      record { within = f.0; place = place; fields = f.1; mic_is = sym is }

  pub mic-only : (it : Option (Bor (List ℕ))) → bytes_if it ≡ rest_if place → (mic : Option (List ℕ)) → HoldsMic mic bytes → bytes_if it ≡ mic
  mic-only it is mic k = is ∙ ap rest_if (same place k.place (e ∙ (mics bytes).only k.place (k.within, k.fields))) ∙ k.mic_is
    where
      same : (x y : Option Place) → ◌≡◌ {A = Result (Option Place) TokenFault} (Ok x) (Ok y) → x ≡ y
      same x y q = cc

module _ {bytes : List ℕ} {fault : TokenFault} (e : Err fault ≡ mic_whole bytes) where
  pub mic-none : (mic : Option (List ℕ)) → HoldsMic mic bytes → ⊥
  mic-none mic k = no_value fault k.place (e ∙ (mics bytes).only k.place (k.within, k.fields))

  pub mic-faulty : IsMicFault bytes fault
  mic-faulty = subst (λ (r : Result (Option Place) TokenFault). IfErr r (IsMicFault bytes)) (sym e) (mics bytes).faulty
