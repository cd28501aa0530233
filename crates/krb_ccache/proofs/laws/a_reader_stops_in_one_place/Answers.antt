use Rattle.krb_ccache.proofs.ReaderLaws.{one_stop}
use Rattle.krb_ccache.proofs.laws.a_reader_stops_in_one_place.Goals as goal

pub returns : goal.returns
returns c = λ bytes one other p q. one_stop bytes one other p q
