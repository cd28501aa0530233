-- A fault lies within the message.
use Rattle.std.proofs.Common.{ℕ, ◌≤◌, List, ◌++◌, length, subst, sym, ap, arith, length-append}
use Rattle.krb_der.specs.declared.fault.Fault.{Fault}
use Rattle.krb_der.specs.Kind.{Kind, leaf, int32, Fields, ends, must, ValueOf}
use Rattle.krb_der.specs.Content.{Elementary}
use Rattle.krb_der.specs.Place.{Place, end_of}
use Rattle.krb_der.specs.Spells.{Contents, StandsAt}
use Rattle.krb_der.specs.Fault.{HasHead, Reached, start, inside_wrapped, inside_sequence, after_element, is_there, is_absent, one_more, IsBroken, nothing, other_tag, cut_length, bad_length, cut_content, bad_content, left_over, IsFault, IsFaulty, IsElementFault, IsHeadFault, too_long, faulty}

head_within : (tag : ℕ) (here inside after : Place) → HasHead tag here inside after → end_of inside ≤ end_of here
head_within tag here inside after h =
    omega (arith, h.inside_at, ap length h.whole, length-append (h.size ++ inside.rest) after.rest, length-append h.size inside.rest)

module _ (Leaf : Contents) where
  stands_within : (k : Kind) (v : ValueOf k) (here after : Place) → StandsAt Leaf k v here after → end_of after ≤ end_of here
  stands_within k v here after s = omega (arith, s.at_is, ap length s.whole, length-append s.front after.rest)

  module _ (from : Fields) (begin : Place) where
    reached_within : {fs : Fields} {here : Place} → Reached Leaf from begin fs here → end_of here ≤ end_of begin
    reached_within start = omega arith
    reached_within (inside_wrapped {tag} {inner} {fs} {here} {inside} {after} r h) = omega (arith, reached_within r, head_within tag here inside after h)
    reached_within (inside_sequence {inner} {fs} {here} {inside} {after} r h) = omega (arith, reached_within r, head_within 0x30 here inside after h)
    reached_within (after_element {e} {fs} {here} {after} v r s) = omega (arith, reached_within r, stands_within e v here after s)
    reached_within (is_there r b) = reached_within r
    reached_within (is_absent r b) = reached_within r
    reached_within (one_more r some) = reached_within r

  broken_within : {fs : Fields} {here : Place} {fault : Fault} → IsBroken Leaf fs here fault → fault.at ≤ end_of here
  broken_within (nothing e) = omega arith
  broken_within (other_tag b bytes e ne) = omega arith
  broken_within (cut_length bytes e cut) = omega arith
  broken_within (bad_length bytes e bad) = omega (arith, ap length e)
  broken_within (cut_content n size bytes e is lt) = omega arith
  broken_within (bad_content inside after h none) = omega arith
  broken_within (left_over some) = omega arith

pub fault_within : (k : Kind) (bytes : List ℕ) (fault : Fault) → IsFault k bytes fault → fault.at ≤ length bytes
fault_within k bytes fault (too_long lt e) = subst (λ (f : Fault). f.at ≤ length bytes) (sym e) (omega arith)
fault_within k bytes fault (faulty le f) = omega (arith, broken_within Elementary f.broken, reached_within Elementary _ _ f.reached)

pub place_within : (fs : Fields) (here : Place) (fault : Fault) → IsFaulty Elementary fs here fault → fault.at ≤ end_of here
place_within fs here fault f = omega (arith, broken_within Elementary f.broken, reached_within Elementary _ _ f.reached)

pub element_fault_within : (k : Kind) (here : Place) (fault : Fault) → IsElementFault Elementary k here fault → fault.at ≤ end_of here
element_fault_within k here fault f = place_within (must k ends) here fault (f ends)

pub head_fault_within : (tag : ℕ) (here : Place) (fault : Fault) → IsHeadFault Elementary tag here fault → fault.at ≤ end_of here
head_fault_within tag here fault f = broken_within Elementary (f (leaf int32) ends)
