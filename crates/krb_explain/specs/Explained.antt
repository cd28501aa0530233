-- What is explained of bytes, without keys.
use Rattle.std.specs.Prelude.{◌≡◌, ℕ, List, [], ◌∷◌, ◌++◌, length, Option, Some, None, codes}
use Rattle.std.specs.Fmt.{decimal}
use Rattle.krb_explain.specs.Layer.{Layer, IsLayer, carried, judged, layer_lines}
use Rattle.krb_explain.specs.Message.{ExplainsMessage}
use Rattle.krb_explain.specs.Page.{page_of}
use Rattle.krb_explain.specs.declared.form.Form.{Form}

abbrev pub size_line : ℕ → List ℕ
size_line size = codes "size: " ++ (decimal size ++ codes " bytes")

-- the lines of the message inside, if there is one
abbrev pub ExplainsCarried : Option (Form × List ℕ) → List (List ℕ) → Type 0
ExplainsCarried None lines = lines ≡ []
ExplainsCarried (Some (form, bytes)) lines = ExplainsMessage form bytes lines

-- the lines explain the bytes: their size, the layers around a message, and the message; and this is what a service judges of them
pub record Explains (bytes : List ℕ) (lines : List (List ℕ)) (request : Option (List ℕ)) : Type 0 where
  pub layer : Layer
  pub inner : List (List ℕ)
  pub layer_is : IsLayer bytes layer
  pub inner_are : ExplainsCarried (carried layer) inner
  pub lines_are : lines ≡ size_line (length bytes) ∷ (layer_lines layer ++ inner)
  pub request_is : request ≡ judged bytes layer

-- the page of these lines
pub record IsExplanation (bytes text : List ℕ) : Type 0 where
  pub lines : List (List ℕ)
  pub request : Option (List ℕ)
  pub explain : Explains bytes lines request
  pub text_is : text ≡ page_of lines
