-- What contracts see of values that borrow the bytes of a message.
use Rattle.std.specs.Prelude.{ℕ, List}
use Rattle.std.specs.Borrow.{Bor}
use Rattle.krb_gss.specs.Answer.{message_of}
use Rattle.krb_msg.specs.Borrowed.{ap_req_of, ap_rep_of, krb_error_of}
use Rattle.krb_explain.specs.Layer.{Layer as LayerValue, alone, asks, answers, says, other}
use Rattle.krb_explain.specs.Message.{Message as MessageValue, request, reply, error, faulty}
use Rattle.krb_explain.specs.declared.form.Form.{Form}
use Rattle.krb_explain.specs.declared.layer.Layer.{Layer}
use Rattle.krb_explain.specs.declared.layer.Layer.TheVariants.{Alone, Asks, Answers, Says, Other}
use Rattle.krb_explain.specs.declared.message.Message.{Message}
use Rattle.krb_explain.specs.declared.message.Message.TheVariants.{Request, Reply, Error, Faulty}

abbrev pub layer_of : Layer → LayerValue
layer_of (Alone form message) = alone form message.now
layer_of (Asks o) = asks o.wrapping o.mechanism o.request.now
layer_of (Answers a) = answers a.wrapping a.mechanism (message_of a.answer)
layer_of (Says verdict) = says verdict
layer_of (Other fault) = other fault

abbrev pub message_in : Form × Bor (List ℕ) → Form × List ℕ
message_in (form, bytes) = (form, bytes.now)

abbrev pub message_of_read : Message → MessageValue
message_of_read (Request m) = request (ap_req_of m)
message_of_read (Reply m) = reply (ap_rep_of m)
message_of_read (Error m) = error (krb_error_of m)
message_of_read (Faulty form fault) = faulty form fault
