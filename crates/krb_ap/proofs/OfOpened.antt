-- An opened request: which row answers it, or that it is accepted.
use Rattle.std.proofs.Common.{◌≡◌, ◌≢◌, ℕ, ℤ, pos, ◌+ℤ◌, ◌<◌, List, refl, sym, subst, inl, inr, ◌⊎◌, arith, Option, Some, None}
use Rattle.std.specs.Prelude.{◌<ℤ◌, ◌↔◌, Bool, IfSome, IsTrue}
use Rattle.krb_der.specs.Kind.{ValueOf}
use Rattle.krb_msg.specs.Bits.{invalid, mutual_required, transited_policy_checked}
use Rattle.krb_msg.specs.Module.{ap_req, enc_ticket_part, authenticator, authorization_data}
use Rattle.krb_msg.specs.Fields.{part_fields, request_fields, authenticator_fields, type_of, part_client, ticket_service, part_times}
use Rattle.krb_replay.specs.Stamp.{Stamp}
use Rattle.krb_ap.specs.Setup.{Setup, Arrival, arrival}
use Rattle.krb_ap.specs.Opened.{OpenedAs, sent_at, stamp_of}
use Rattle.krb_ap.specs.Times.{Near, IsEarly, IsLate, IsPathTrusted, IsDataIgnorable, MayBeIgnored, second_at, start_of}
use Rattle.krb_ap.specs.Quiet.{Settled}
use Rattle.krb_ap.specs.History.{effective, Shows, IsShown}
use Rattle.krb_ap.specs.Taken.{Taken, IsMutual, IsTakenFrom, taken_from, Accept}
use Rattle.krb_ap.specs.Causes.{Cause, Holds, IsRemembered, OfOpened, place}
use Rattle.krb_ap.specs.Inner.Facts.{Facts}
use Rattle.krb_ap.specs.Inner.Decisions.{Decisions}
use Rattle.krb_ap.specs.Inner.Judging.{IsTurnedAway}
use Rattle.krb_ap.specs.Inner.Stages.{IsOfTimes, TimesRefuse}
use Rattle.krb_ap.proofs.Decided.{Decided, both, one_of, none_of, integers, texts, order, later, each}
use Rattle.krb_ap.proofs.Late.{alive}
use Rattle.krb_ap.proofs.OneOpening.{of_opened}
use Rattle.krb_ap.proofs.Stages.{opened}
use Rattle.krb_ap.proofs.Table.{Clear, pass}
use Rattle.krb_ap.proofs.Truth.{truth_of}
use Rattle.krb_ap.proofs.TurnedAway.{shown_near, shown_stamp, turned_away}
use Rattle.krb_ap.specs.declared.refusal.Refusal.{Refusal}
use Rattle.krb_ap.specs.declared.refusal.Refusal.TheVariants.{Skew, JustStarted, Repeat, NotYetValid, Expired, Transited, Authorization, OutOfMemory}

pub near : (a now : ℤ) (skew : ℕ) → Decided (Near a now skew)
near a now skew = elim (both _ _ (order a (now +ℤ pos skew)) (order now (a +ℤ pos skew))) [
  | inl h ↦ inl (record { not_after = h.0; not_before = h.1 })
  | inr none ↦ inr (λ h. none (h.not_after, h.not_before))
]

past : (start : Option ℤ) (moment : ℤ) (skew : ℕ) → Decided (IfSome start (λ start. (start +ℤ pos skew) <ℤ moment))
past None moment skew = inl tt
past (Some start) moment skew = later (start +ℤ pos skew) moment

pub settled : (setup : Setup) (now sent : ℤ) → Decided (Settled setup now sent)
settled setup now sent = elim (both _ _ (past setup.start now setup.skew) (past setup.start sent setup.skew)) [
  | inl h ↦ inl (record { now_is = h.0; sent_is = h.1 })
  | inr none ↦ inr (λ h. none (h.now_is, h.sent_is))
]

module _ (facts : Facts) (setup : Setup) (history : List Arrival) (bytes : List ℕ) (moment : ℤ)
    (request : ValueOf ap_req) (part : ValueOf enc_ticket_part) (auth : ValueOf authenticator) (o : OpenedAs setup bytes request part auth) where
  so : (P : ValueOf ap_req → ValueOf enc_ticket_part → ValueOf authenticator → Type 0) → P request part auth → OfOpened setup bytes P
  so P h = record { request = request; part = part; auth = auth; opened = o; holds = h }

  not_so : (P : ValueOf ap_req → ValueOf enc_ticket_part → ValueOf authenticator → Type 0) → ¬ P request part auth → ¬ OfOpened setup bytes P
  not_so P none h = none (of_opened facts setup bytes request part auth P o h)

  -- ---- near, or far

  pub far : (Has : Stamp → Type 0) → ¬ Near (sent_at auth) (effective history moment) setup.skew
      → IsTurnedAway setup history (arrival bytes moment) Has Skew
  far Has not_near = record {
    cause = record {
      holds = so (λ r p a. ¬ Near (sent_at a) (effective history moment) setup.skew) not_near;
      first = opened facts setup history (arrival bytes moment) request part auth o;
    };
    had = λ stamp shows. absurd (not_near (shown_near facts setup history bytes moment Has request part auth o (effective history moment) stamp shows));
  }

  module _ (is_near : Near (sent_at auth) (effective history moment) setup.skew) where
    past_skew : Clear setup history (arrival bytes moment) (place JustStarted)
    past_skew = pass setup history (arrival bytes moment) Skew
        (opened facts setup history (arrival bytes moment) request part auth o)
        (not_so (λ r p a. ¬ Near (sent_at a) (effective history moment) setup.skew) (λ far. far is_near))

    -- ---- just started, or settled

    pub just_started : ¬ Settled setup (effective history moment) (sent_at auth) → Cause setup history (arrival bytes moment) JustStarted
    just_started quiet = record {
      holds = so (λ r p a. ¬ Settled setup (effective history moment) (sent_at a)) quiet;
      first = past_skew;
    }

    module _ (is_settled : Settled setup (effective history moment) (sent_at auth)) where
      past_start : Clear setup history (arrival bytes moment) (place Repeat)
      past_start = pass setup history (arrival bytes moment) JustStarted past_skew
          (not_so (λ r p a. ¬ Settled setup (effective history moment) (sent_at a)) (λ quiet. quiet is_settled))

      -- ---- shown before, or new

      pub repeated : (Has : Stamp → Type 0) → IsShown setup history (stamp_of request part auth) → Has (stamp_of request part auth)
          → IsTurnedAway setup history (arrival bytes moment) Has Repeat
      repeated Has shown had = record {
        cause = record { holds = so (λ r p a. IsShown setup history (stamp_of r p a)) shown; first = past_start };
        had = λ stamp shows. subst Has (sym (shown_stamp facts setup history bytes moment Has request part auth o (effective history moment) stamp shows)) had;
      }

      module _ (unshown : ¬ IsShown setup history (stamp_of request part auth)) where
        past_repeat : Clear setup history (arrival bytes moment) (place NotYetValid)
        past_repeat = pass setup history (arrival bytes moment) Repeat past_start
            (not_so (λ r p a. IsShown setup history (stamp_of r p a)) unshown)

        -- ---- what is asked of the ticket

        past_early : ¬ IsEarly part (effective history moment) setup.skew → Clear setup history (arrival bytes moment) (place Expired)
        past_early early = pass setup history (arrival bytes moment) NotYetValid past_repeat
            (not_so (λ r p a. IsEarly p (effective history moment) setup.skew) early)

        past_late : ¬ IsEarly part (effective history moment) setup.skew → ¬ IsLate part (effective history moment) setup.skew
            → Clear setup history (arrival bytes moment) (place Transited)
        past_late early late = pass setup history (arrival bytes moment) Expired (past_early early)
            (not_so (λ r p a. IsLate p (effective history moment) setup.skew) late)

        past_path : ¬ IsEarly part (effective history moment) setup.skew → ¬ IsLate part (effective history moment) setup.skew → IsPathTrusted request part
            → Clear setup history (arrival bytes moment) (place Authorization)
        past_path early late trusted = pass setup history (arrival bytes moment) Transited (past_late early late)
            (not_so (λ r p a. ¬ IsPathTrusted r p) (λ untrusted. untrusted trusted))

        pub past_all : IsOfTimes setup.skew (effective history moment) request part auth → Clear setup history (arrival bytes moment) (place OutOfMemory)
        past_all h = pass setup history (arrival bytes moment) Authorization (past_path h.early h.late h.trusted)
            (not_so (λ r p a. ¬ IsDataIgnorable p a) (λ known. known h.ignorable))

        -- the first cause of those that are left
        pub times_cause : (r : Refusal) → TimesRefuse setup.skew (effective history moment) request part auth r → Cause setup history (arrival bytes moment) r
        times_cause r h = elim h [
          | inl x ↦ of_cause (sym x.0) (record { holds = so (λ r p a. IsEarly p (effective history moment) setup.skew) x.1; first = past_repeat })
          | inr rest ↦ elim rest [
            | inl x ↦ of_cause (sym x.0) (record { holds = so (λ r p a. IsLate p (effective history moment) setup.skew) x.1.1; first = past_early x.1.0 })
            | inr others ↦ elim others [
              | inl x ↦ of_cause (sym x.0) (record { holds = so (λ r p a. ¬ IsPathTrusted r p) x.1.1.1; first = past_late x.1.0 x.1.1.0 })
              | inr x ↦ of_cause (sym x.0)
                  (record { holds = so (λ r p a. ¬ IsDataIgnorable p a) x.1.1.1.1; first = past_path x.1.0 x.1.1.0 x.1.1.1.0 })
            ]
          ]
        ]
          where
            of_cause : {s : Refusal} → s ≡ r → Cause setup history (arrival bytes moment) s → Cause setup history (arrival bytes moment) r
            of_cause same cause = subst (λ (x : Refusal). Cause setup history (arrival bytes moment) x) same cause

        pub times_accept : (taken : Taken) → IsTakenFrom request part auth taken → IsOfTimes setup.skew (effective history moment) request part auth
            → Accept setup history (arrival bytes moment) taken
        times_accept taken e h = record {
          request = request;
          part = part;
          auth = auth;
          opened = o;
          near = is_near;
          settled = is_settled;
          unshown = unshown;
          alive = alive part (effective history moment) setup.skew h.early h.late;
          trusted = h.trusted;
          ignorable = h.ignorable;
          taken_is = e;
        }

  -- ---- one of them answers it

  module _ (d : Decisions) where
    early : Decided (IsEarly part (effective history moment) setup.skew)
    early = one_of _ _ (none_of _ (order (second_at (start_of part)) (effective history moment +ℤ pos setup.skew))) (d.bit (part_fields part).flags invalid)

    late : Decided (IsLate part (effective history moment) setup.skew)
    late = none_of _ (order (effective history moment) (second_at (part_times part).endtime +ℤ pos setup.skew))

    trusted : Decided (IsPathTrusted request part)
    trusted = one_of _ _ (texts (part_client part).realm (ticket_service (request_fields request).ticket).realm) (d.bit (part_fields part).flags transited_policy_checked)

    data_of : (data_ : Option (ValueOf authorization_data)) → Decided (MayBeIgnored data_)
    data_of None = inl tt
    data_of (Some elements) = each (λ element. type_of element ≡ pos 1) (λ element. integers (type_of element) (pos 1)) elements

    ignorable : Decided (IsDataIgnorable part auth)
    ignorable = elim (both _ _ (data_of (part_fields part).authorization) (data_of (authenticator_fields auth).authorization)) [
      | inl h ↦ inl (record { of_ticket = h.0; of_authenticator = h.1 })
      | inr none ↦ inr (λ h. none (h.of_ticket, h.of_authenticator))
    ]

    reply : (b : Bool) × (IsTrue b ↔ IsMutual request)
    reply = truth_of (d.bit (request_fields request).options mutual_required)

    by_times : Near (sent_at auth) (effective history moment) setup.skew → Settled setup (effective history moment) (sent_at auth) → ¬ IsShown setup history (stamp_of request part auth)
        → ((t : Taken) × Accept setup history (arrival bytes moment) t) ⊎ ((r : Refusal) × Cause setup history (arrival bytes moment) r)
    by_times is_near is_settled new = elim early [
      | inl h ↦ inr (NotYetValid, times_cause is_near is_settled new NotYetValid (inl (refl, h)))
      | inr begun ↦ elim late [
        | inl h ↦ inr (Expired, times_cause is_near is_settled new Expired (inr (inl (refl, (begun, h)))))
        | inr lasting ↦ elim trusted [
          | inr h ↦ inr (Transited, times_cause is_near is_settled new Transited (inr (inr (inl (refl, (begun, (lasting, h)))))))
          | inl path ↦ elim ignorable [
            | inr h ↦ inr (Authorization, times_cause is_near is_settled new Authorization (inr (inr (inr (refl, (begun, (lasting, (path, h))))))))
            | inl ignored ↦ inl (
              taken_from request part auth reply.0,
              times_accept is_near is_settled new (taken_from request part auth reply.0) (record { told = refl; wants_reply = reply.1 })
                  (record { early = begun; late = lasting; trusted = path; ignorable = ignored }),
            )
          ]
        ]
      ]
    ]

    -- where it is decided whether it was shown
    pub answered : Decided (IsShown setup history (stamp_of request part auth))
        → ((t : Taken) × Accept setup history (arrival bytes moment) t) ⊎ ((r : Refusal) × Cause setup history (arrival bytes moment) r)
    answered shown = elim (near (sent_at auth) (effective history moment) setup.skew) [
      | inr h ↦ inr (Skew, (far (λ s. ⊥) h).cause)
      | inl is_near ↦ elim (settled setup (effective history moment) (sent_at auth)) [
        | inr h ↦ inr (JustStarted, just_started is_near h)
        | inl is_settled ↦ elim shown [
          | inl h ↦ inr (Repeat, (repeated is_near is_settled (λ s. IsShown setup history s) h h).cause)
          | inr new ↦ by_times is_near is_settled new
        ]
      ]
    ]

-- what is accepted passes all rows
pub accepted_is_clear : Facts → (setup : Setup) (history : List Arrival) (call : Arrival) (taken : Taken) → Accept setup history call taken
    → Clear setup history call (place OutOfMemory)
accepted_is_clear facts setup history call taken a =
    past_all facts setup history call.bytes call.moment a.request a.part a.auth a.opened a.near a.settled a.unshown
    (record { early = not_early; late = λ late. late a.alive.lasting; trusted = a.trusted; ignorable = a.ignorable })
  where
    not_early : ¬ IsEarly a.part (effective history call.moment) setup.skew
    not_early early = elim early [ inl h ↦ h a.alive.begun | inr bit ↦ a.alive.valid bit ]

-- ---- which refusals remember a request

behind_skew : (r : Refusal) → IsRemembered r → place Skew < place r
behind_skew r kept = grind arith

behind_repeat : (r : Refusal) → IsRemembered r → r ≢ JustStarted → place Repeat < place r
behind_repeat r kept other = grind arith

early_of_these : (r : Refusal) → ¬ IsRemembered r → (place r < place Skew) ⊎ ((r ≡ Skew) ⊎ ((r ≡ Repeat) ⊎ (r ≡ OutOfMemory)))
early_of_these r kept = grind arith

module _ (facts : Facts) (setup : Setup) (history : List Arrival) (call : Arrival) where
  -- the request is shown
  abbrev ShowsOne : (Stamp → Type 0) → Type 0
  ShowsOne P = (stamp : Stamp) × (Shows setup (effective history call.moment) call.bytes stamp × P stamp)

  -- such a refusal is of an opened request
  opened_of : (r : Refusal) → IsRemembered r → Holds setup history call r → OfOpened setup call.bytes (λ request part auth. Unit {0})
  opened_of JustStarted kept h = record { request = h.request; part = h.part; auth = h.auth; opened = h.opened; holds = tt }
  opened_of NotYetValid kept h = record { request = h.request; part = h.part; auth = h.auth; opened = h.opened; holds = tt }
  opened_of Expired kept h = record { request = h.request; part = h.part; auth = h.auth; opened = h.opened; holds = tt }
  opened_of Transited kept h = record { request = h.request; part = h.part; auth = h.auth; opened = h.opened; holds = tt }
  opened_of Authorization kept h = record { request = h.request; part = h.part; auth = h.auth; opened = h.opened; holds = tt }
  opened_of _ kept h = absurd cc

  -- near, since the clocks' row doesn't hold; and new, unless it was just started, since that of repeats doesn't
  pub remembers : (r : Refusal) → IsRemembered r → Cause setup history call r → ShowsOne (λ stamp. r ≢ JustStarted → ¬ IsShown setup history stamp)
  remembers r kept cause =
      let o : OfOpened setup call.bytes (λ request part auth. Unit {0}) = opened_of r kept cause.holds in (
        stamp_of o.request o.part o.auth,
        (
          elim (near (sent_at o.auth) (effective history call.moment) setup.skew) [
            | inl is_near ↦ record { request = o.request; part = o.part; auth = o.auth; opened = o.opened; near = is_near; stamp_is = refl }
            | inr far ↦ absurd (cause.first Skew (behind_skew r kept) (record { request = o.request; part = o.part; auth = o.auth; opened = o.opened; holds = far }))
          ],
          λ other shown. cause.first Repeat (behind_repeat r kept other)
              (record { request = o.request; part = o.part; auth = o.auth; opened = o.opened; holds = shown }),
        ),
      )

  pub adds_nothing : (r : Refusal) → ¬ IsRemembered r → Cause setup history call r → (stamp : Stamp)
      → Shows setup (effective history call.moment) call.bytes stamp → IsShown setup history stamp
  adds_nothing r kept cause stamp shows = elim (early_of_these r kept) [
    | inl before ↦ (turned_away facts setup history call.bytes call.moment (λ s. IsShown setup history s) r before cause).had stamp shows
    | inr rest ↦ elim rest [
      | inl is ↦ by_skew (subst (λ (x : Refusal). Holds setup history call x) is cause.holds)
      | inr others ↦ elim others [
        | inl is ↦ by_repeat (subst (λ (x : Refusal). Holds setup history call x) is cause.holds)
        | inr is ↦ absurd (subst (λ (x : Refusal). Holds setup history call x) is cause.holds)
      ]
    ]
  ]
    where
      by_skew : Holds setup history call Skew → IsShown setup history stamp
      by_skew x = absurd (x.holds (shown_near facts setup history call.bytes call.moment (λ s. ⊥) x.request x.part x.auth x.opened (effective history call.moment) stamp shows))

      by_repeat : Holds setup history call Repeat → IsShown setup history stamp
      by_repeat x = subst (λ (s : Stamp). IsShown setup history s)
          (sym (shown_stamp facts setup history call.bytes call.moment (λ s. ⊥) x.request x.part x.auth x.opened (effective history call.moment) stamp shows)) x.holds
