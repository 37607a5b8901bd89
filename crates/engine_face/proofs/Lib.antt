mod Numbered
mod Ends
mod Changing
mod Answering
mod Linking
mod Finding
mod Listing
mod Rising
