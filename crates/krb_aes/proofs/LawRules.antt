use Rattle.krb_aes.proofs.RoundLaws.{IsBlock-cipher, IsBlock-inv_cipher, inv_cipher-cipher, cipher-inv_cipher}

pub ruleset laws = (IsBlock-cipher, IsBlock-inv_cipher, inv_cipher-cipher, cipher-inv_cipher)
