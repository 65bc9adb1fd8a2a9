mod Due
mod Found
mod First
