-- The next token that one side sends and the other takes.
use Rattle.std.proofs.Common.{◌≡◌, ◌∙◌, ◌⊎◌, ◌<◌, ◌+◌, ◌^◌, ℕ, List, [], ◌∷◌, Bool, length, Some, None, inl, inr, ⊎_elim, refl, sym, ap, subst, add-one, arith}
use Rattle.std.specs.Prelude.{All, Contains, IsTrue, if◌then◌else◌}
use Rattle.std.proofs.lemmas.Bool.{lt-ltb}
use Rattle.krb_context.specs.Side.{Sender, peer_of, peer_sender}
use Rattle.krb_context.specs.Mic.{IsMic, mic_token}
use Rattle.krb_context.specs.Wrap.{IsWrap, wrap_token}
use Rattle.krb_context.specs.Sequence.{IsNew, Stands, sent_numbers}
use Rattle.krb_context.specs.Context.{State, HasOrder, HasSentFirst, IsBegun, IsNextFor, IsOutOfOrder, IsRefusedBy, Takes, first_of, number_after, sender_in}
use Rattle.krb_context.specs.declared.agreed.Agreed.{Agreed}
use Rattle.krb_context.specs.declared.agreed.Options.{Options}
use Rattle.krb_context.specs.declared.role.Role.{Role}
use Rattle.krb_context.specs.declared.role.Role.TheVariants.{Initiator, Acceptor}
use Rattle.krb_context.specs.declared.order.Order.{Order}
use Rattle.krb_context.specs.declared.order.Order.TheVariants.{Next, Repeat, Old}
use Rattle.krb_context.specs.declared.fault.ReceiveFault.{ReceiveFault}
use Rattle.krb_context.specs.declared.fault.ReceiveFault.TheVariants.{NotAccepted, OutOfOrder}
use Rattle.krb_context.proofs.Windows.{in_order, once, one_order, in_front}
use Rattle.krb_context.proofs.Written.{mic_is_read, wrap_is_read}

pub next_wrap : (from to : State) (first count : ℕ) (is_sealed : Bool) (confounder text : List ℕ)
    → IsNextFor from to first count → length confounder ≡ 16 → All (λ byte. byte < 256) confounder → All (λ byte. byte < 256) text
    → IsWrap (peer_sender to.sender) is_sealed (first + count) text (wrap_token from.sender is_sealed from.options.rotation confounder (first + count) text)
next_wrap from to first count is_sealed confounder text next size confounder_bytes bytes =
    subst (λ (s : Sender). IsWrap s is_sealed (first + count) text (wrap_token from.sender is_sealed from.options.rotation confounder (first + count) text)) next.sender_is
    (wrap_is_read from.sender is_sealed from.options.rotation confounder (first + count) text next.fits next.rotation_fits size confounder_bytes bytes)

pub next_mic : (from to : State) (first count : ℕ) (text : List ℕ) → IsNextFor from to first count
    → IsMic (peer_sender to.sender) (first + count) text (mic_token from.sender (first + count) text)
next_mic from to first count text next =
    subst (λ (s : Sender). IsMic s (first + count) text (mic_token from.sender (first + count) text)) next.sender_is (mic_is_read from.sender (first + count) text next.fits)

pub next_order : (from to : State) (first count : ℕ) (order : Order) → IsNextFor from to first count → HasOrder to.window (first + count) order → order ≡ Next
next_order from to first count order next has =
    one_order first (sent_numbers first count) (first + count) order Next (has first (sent_numbers first count) next.took) (in_order first count)

none_more : (n : ℕ) → n + 0 ≡ n
none_more n = omega arith

-- the next one is refused by no options
next_is_new : (order : Order) → order ≡ Next → IsNew order
next_is_new order next = ((λ is. cc), (λ is. cc))

next_is_taken : (options : Options) (order : Order) → order ≡ Next → IsRefusedBy options order → ⊥
next_is_taken options order next (inl it) = it.1 next
next_is_taken options order next (inr it) = it.1 (next_is_new order next)

pub not_refused : (from to : State) (first count : ℕ) (fault : ReceiveFault) → IsNextFor from to first count → IsOutOfOrder to (first + count) fault → ⊥
not_refused from to first count (NotAccepted fault) next it = it
not_refused from to first count (OutOfOrder order) next it = next_is_taken to.options order (next_order from to first count order next it.1) it.0

pub taken_again : (from to after : State) (first count : ℕ) (order : Order) → IsNextFor from to first count → Takes to (first + count) Next after
    → HasOrder after.window (first + count) order → (order ≡ Repeat) ⊎ (order ≡ Old)
taken_again from to after first count order next takes has =
    let taken : List ℕ = (first + count) ∷ sent_numbers first count in
    once first taken (first + count) order (has first taken (takes.taken first (sent_numbers first count) next.took)) (in_front (first + count) (sent_numbers first count))

one_more : (number : ℕ) → number + 1 < 2 ^ 64 → number_after number ≡ Some (number + 1)
one_more number fits = ap (λ (b : Bool). if b then Some (number + 1) else None) (lt-ltb (number + 1) (2 ^ 64) fits)

pub goes_on : (from to after : State) (first count : ℕ) → IsNextFor from to first count → Takes to (first + count) Next after → first + count + 1 < 2 ^ 64
    → IsNextFor (record from { next = number_after (first + count) }) after first (count + 1)
goes_on from to after first count next takes fits =
    let sum : first + count + 1 ≡ first + (count + 1) = omega arith in
    record {
      sender_is = next.sender_is ∙ ap (λ (s : State). peer_sender s.sender) (sym takes.rest);
      next_is = one_more (first + count) fits ∙ ap (λ (n : ℕ). Some n) sum;
      fits = omega (arith, fits);
      rotation_fits = next.rotation_fits;
      took = subst (λ (n : ℕ). Stands after.window first (sent_numbers first n)) (sym (add-one count)) (takes.taken first (sent_numbers first count) next.took);
    }

-- ---- what both sides agreed on, each by its side
peer_back : (side : Role) → peer_of (peer_of side) ≡ side
peer_back Initiator = refl
peer_back Acceptor = refl

is_peer : (agreed : Agreed) (side : Role) (from to : Sender) → from ≡ sender_in agreed side → to ≡ sender_in agreed (peer_of side) → from ≡ peer_sender to
is_peer agreed side from to one other = one ∙ ap (sender_in agreed) (sym (peer_back side)) ∙ sym (ap peer_sender other)

pub begin_in_step : (agreed : Agreed) (side : Role) (from to : State) → IsBegun agreed side from → IsBegun agreed (peer_of side) to
    → IsNextFor from to (first_of agreed side) 0
begin_in_step agreed side from to one other = record {
  sender_is = is_peer agreed side from.sender to.sender one.sender_is other.sender_is;
  next_is = one.next_is ∙ ap (λ (n : ℕ). Some n) (sym (none_more (first_of agreed side)));
  fits = subst (λ (n : ℕ). n < 2 ^ 64) (sym (none_more (first_of agreed side))) one.fits;
  rotation_fits = one.rotation_fits;
  took = subst (λ (r : Role). Stands to.window (first_of agreed r) []) (peer_back side) other.took;
}

-- each has sent its first token, and taken that of the other
pub go_on_in_step : (agreed : Agreed) (side : Role) (from to : State) → HasSentFirst agreed side from → HasSentFirst agreed (peer_of side) to
    → first_of agreed side + 1 < 2 ^ 64 → IsNextFor from to (first_of agreed side) 1
go_on_in_step agreed side from to one other fits = record {
  sender_is = is_peer agreed side from.sender to.sender one.sender_is other.sender_is;
  next_is = one.next_is ∙ one_more (first_of agreed side) fits;
  fits = fits;
  rotation_fits = one.rotation_fits;
  took = subst (λ (n : ℕ). Stands to.window (first_of agreed side) (n ∷ [])) (sym (none_more (first_of agreed side)))
      (subst (λ (r : Role). Stands to.window (first_of agreed r) (first_of agreed r ∷ [])) (peer_back side) other.took);
}

-- ---- a side that refuses repeats
pub no_repeat : (old new : State) (first : ℕ) (taken : List ℕ) (number : ℕ) (order : Order) → IsTrue old.options.refuses_repeats
    → Stands old.window first taken → Contains taken number → Takes old number order new → ⊥
no_repeat old new first taken number order refuses stands contains takes =
    ⊎_elim (takes.may.once refuses).0 (takes.may.once refuses).1 (once first taken number order (takes.has_order first taken stands) contains)
