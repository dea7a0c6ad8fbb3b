-- The measure of `refine_words::put_decimal`, which calls itself for the tens: the number, as its tens are fewer.
use Rattle.refine_words.proofs.+put_decimal.Given as goal

abbrev pub decreases-put_decimal : goal.decreases-put_decimal
decreases-put_decimal l = l.x
