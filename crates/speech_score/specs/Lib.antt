-- Said  what each call answers, and what its buffer then holds
pub mod Said
