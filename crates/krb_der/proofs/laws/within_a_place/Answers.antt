use Rattle.krb_der.proofs.Offsets.{place_within, element_fault_within, head_fault_within}
use Rattle.krb_der.proofs.laws.within_a_place.Goals as goal

pub returns-clause-element : goal.returns-clause-element
returns-clause-element c = element_fault_within

pub returns-clause-head : goal.returns-clause-head
returns-clause-head c = head_fault_within

pub returns-clause-fields : goal.returns-clause-fields
returns-clause-fields c = place_within
