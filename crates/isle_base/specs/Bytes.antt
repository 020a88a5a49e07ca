-- The bytes used in definitions: the codes of characters, each under its character's name.
use Rattle.std.specs.Prelude.{ℕ}
pub use Rattle.isle_base_source.specs.Bytes.{line_feed}

abbrev pub tab : ℕ
tab = 9

abbrev pub form_feed : ℕ
form_feed = 12

abbrev pub carriage_return : ℕ
carriage_return = 13

abbrev pub space : ℕ
space = 32

abbrev pub exclamation_mark : ℕ
exclamation_mark = 33

abbrev pub dollar : ℕ
dollar = 36

abbrev pub left_parenthesis : ℕ
left_parenthesis = 40

abbrev pub right_parenthesis : ℕ
right_parenthesis = 41

abbrev pub hyphen_minus : ℕ
hyphen_minus = 45

abbrev pub dot : ℕ
dot = 46

abbrev pub digit_zero : ℕ
digit_zero = 48

abbrev pub colon : ℕ
colon = 58

abbrev pub semicolon : ℕ
semicolon = 59

abbrev pub question_mark : ℕ
question_mark = 63

abbrev pub commercial_at : ℕ
commercial_at = 64

abbrev pub letter_upper_b : ℕ
letter_upper_b = 66

abbrev pub letter_upper_o : ℕ
letter_upper_o = 79

abbrev pub letter_upper_x : ℕ
letter_upper_x = 88

abbrev pub underscore : ℕ
underscore = 95

abbrev pub letter_b : ℕ
letter_b = 98

abbrev pub letter_o : ℕ
letter_o = 111

abbrev pub letter_x : ℕ
letter_x = 120
