-- The theorem. Assumes nothing.
use Rattle.agreement.specs.Safety.{Agreement}
use Rattle.agreement.proofs.Lock.{lock, decided}
use Rattle.agreement.proofs.Validity.{certified, sound, epochs}
use Rattle.agreement.proofs.Words.{words_first, words_each}

pub agreement : Agreement
agreement c leader ws g =
    record {
      lock = lock c leader ws g;
      decided = decided c leader ws g;
      certified = certified c leader ws g;
      sound = sound c leader ws g;
      epochs = epochs c leader ws g;
      first = words_first c leader ws g;
      each = words_each c leader ws g;
    }
