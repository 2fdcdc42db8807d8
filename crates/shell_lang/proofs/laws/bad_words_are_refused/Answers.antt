use Rattle.shell_lang.proofs.Refused.{front_is_read, open_is_refused, followed_is_refused, bare_is_refused}
use Rattle.shell_lang.proofs.laws.bad_words_are_refused.Goals as goal

pub returns : goal.returns
returns c = record {
  front = front_is_read;
  unclosed = open_is_refused;
  followed = followed_is_refused;
  bare = bare_is_refused;
}
